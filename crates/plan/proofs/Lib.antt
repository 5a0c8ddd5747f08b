pub mod Sound
pub mod Examples
pub mod Withdrawn
pub mod Flag
