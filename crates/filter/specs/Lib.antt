pub mod Alikes
pub mod Filters
pub mod Standing
