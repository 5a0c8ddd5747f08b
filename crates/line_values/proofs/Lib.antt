pub mod Digits
pub mod Hexes
