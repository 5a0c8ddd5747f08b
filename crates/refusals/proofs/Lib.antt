mod Tags
pub mod Judged
