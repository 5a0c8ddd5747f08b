pub mod Judged
pub mod Passed
pub mod Left
pub mod AskedUse
pub mod Rows
pub mod Alike
pub mod AsSeen
pub mod Puts
