pub mod Euclid
pub mod Lowest
