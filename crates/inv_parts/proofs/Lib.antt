pub mod MixedBack
