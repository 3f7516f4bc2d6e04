pub mod Order
pub mod Transcripts
pub mod Rules
pub mod Law
pub mod Answers
pub mod States
pub mod Openings
pub mod Lists
