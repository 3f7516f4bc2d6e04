pub mod Inputs
pub mod Listed
pub mod Outcomes
pub mod Replies
