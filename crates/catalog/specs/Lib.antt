pub mod Replies
pub mod Readings
