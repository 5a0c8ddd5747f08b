pub mod Within
pub mod Laws
pub mod Stores
pub mod Alone
pub mod Tail
pub mod Stream
