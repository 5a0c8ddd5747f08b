pub mod Walk
pub mod CallRules
pub mod Shared
pub mod Heads
