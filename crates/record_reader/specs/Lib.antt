pub mod Lines
pub mod Record
