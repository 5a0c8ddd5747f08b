pub mod MixingRule
pub mod Halves
