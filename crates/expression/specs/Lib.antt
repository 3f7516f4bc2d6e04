pub mod Cuts
pub mod Marks
pub mod Faults
pub mod Standing
