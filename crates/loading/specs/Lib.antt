pub mod Answers
pub mod Loading
