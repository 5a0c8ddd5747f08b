pub mod Forward
pub mod Prefix
pub mod Logs
pub mod First
pub mod Figures
pub mod Answers
pub mod Totals
