pub mod Highs
pub mod Feeds
pub mod Sizes
pub mod Bytes
