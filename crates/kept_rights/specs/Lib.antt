pub mod Left
pub mod Passes
