pub mod Steps
pub mod Schedule
