pub mod Combining
pub mod Algorithm
pub mod Numbers
