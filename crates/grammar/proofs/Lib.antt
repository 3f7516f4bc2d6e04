pub mod Numbers
pub mod Steps
pub mod Parts
pub mod Accepted
pub mod Built
pub mod Meanings
