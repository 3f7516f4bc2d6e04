pub mod Tree
pub mod Counts
pub mod Resting
pub mod Passed
pub mod Walking
pub mod Carrying
