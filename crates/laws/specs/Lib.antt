pub mod Choice
pub mod Lists
pub mod Bits
