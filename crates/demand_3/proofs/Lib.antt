pub mod Agree
pub mod Demand
pub mod Facts
pub mod Local
pub mod Related
