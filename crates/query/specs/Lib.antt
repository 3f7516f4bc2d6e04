pub mod Faults
pub mod Queries
