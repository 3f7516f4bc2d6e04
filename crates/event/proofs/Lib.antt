pub mod Exactness
pub mod Writing
pub mod Laying
