pub mod Accepted
pub mod Damage
pub mod Refused
pub mod Kept
