pub mod Log
pub mod Figures
