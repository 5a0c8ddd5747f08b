pub mod Blocks
pub mod Columns
pub mod Inverse
pub mod Rounds
pub mod SBoxes
pub mod Steps
pub mod Sums
