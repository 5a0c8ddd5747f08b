pub mod Conforms
pub mod Verdict
