pub mod Steps
pub mod Choices
