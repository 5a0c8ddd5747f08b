pub mod Inputs
pub mod Texts
