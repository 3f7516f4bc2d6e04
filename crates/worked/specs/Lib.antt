pub mod Bundles
pub mod Endings
pub mod Cases
