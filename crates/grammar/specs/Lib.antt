pub mod Grammar
pub mod Faults
pub mod Readings
pub mod Stands
