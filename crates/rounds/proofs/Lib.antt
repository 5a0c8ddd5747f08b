pub mod Columns
pub mod Folded
