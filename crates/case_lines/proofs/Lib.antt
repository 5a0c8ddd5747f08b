pub mod Promises
pub mod GoodLines
