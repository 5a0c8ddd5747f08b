pub mod Refusals
pub mod Lengths
pub mod Puts
