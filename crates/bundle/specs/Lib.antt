pub mod Faults
pub mod Numbers
pub mod Offsets
pub mod Bundles
pub mod Tapes
