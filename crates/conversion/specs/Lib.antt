pub mod Answers
pub mod Conversion
