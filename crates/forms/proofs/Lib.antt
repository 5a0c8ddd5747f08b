pub mod Forms
pub mod Decimals
pub mod Choices
pub mod Words
pub mod Hexes
