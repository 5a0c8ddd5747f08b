pub mod Records
pub mod Origins
pub mod Kept
pub mod Gathered
pub mod Pass
pub mod Example
