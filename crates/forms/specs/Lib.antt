pub mod Form
pub mod Decimals
pub mod Words
pub mod Hexes
