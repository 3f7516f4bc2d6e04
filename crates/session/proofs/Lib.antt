pub mod Refusing
pub mod Limits
pub mod Standing
pub mod Bridge
pub mod Wider
pub mod Runs
