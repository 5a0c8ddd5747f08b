pub mod Lists
pub mod Tables
pub mod Tests
pub mod Sides
pub mod OfPairs
pub mod Exact
