pub mod Mixing
pub mod Mode
pub mod Keystream
