pub mod Answers
pub mod Input
pub mod Report
