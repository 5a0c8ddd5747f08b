pub mod Passed
pub mod Cleared
