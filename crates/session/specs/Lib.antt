pub mod Sessions
pub mod Calls
pub mod Runs
