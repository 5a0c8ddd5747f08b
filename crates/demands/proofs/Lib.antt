pub mod Refused
pub mod Ciphered
pub mod Service
pub mod AnyAlgorithm
