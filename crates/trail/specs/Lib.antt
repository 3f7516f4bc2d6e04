pub mod Projection
pub mod Levels
pub mod Trials
pub mod Moves
pub mod Sound
