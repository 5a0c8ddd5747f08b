pub mod Changed
pub mod Answers
