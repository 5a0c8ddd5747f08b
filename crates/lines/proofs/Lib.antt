pub mod Pieces
pub mod Ends
