pub mod Projections
pub mod Growing
pub mod Sounding
pub mod Opening
pub mod Stepping
