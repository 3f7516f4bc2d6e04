pub mod Joining
pub mod Putting
