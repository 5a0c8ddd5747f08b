pub mod Table
pub mod Bounds
pub mod Doubling
