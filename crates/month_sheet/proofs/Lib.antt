pub mod Lengths
pub mod Texts
pub mod Printed
