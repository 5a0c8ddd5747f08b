pub mod Passed
pub mod Pieces
pub mod Calls
pub mod Seen
pub mod Flag
pub mod Laws
pub mod Numbers
