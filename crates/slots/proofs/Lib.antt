pub mod Zeros
pub mod Tables
