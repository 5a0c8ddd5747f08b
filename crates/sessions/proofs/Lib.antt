pub mod Corollaries
pub mod Entries
pub mod Example
pub mod Lent
pub mod Service
pub mod Sessions
pub mod Steps
