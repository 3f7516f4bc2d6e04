pub mod Checks
pub mod Inclusion
pub mod Support
pub mod Lexicons
pub mod Rows
pub mod Learning
pub mod Picks
