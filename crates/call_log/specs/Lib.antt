pub mod Fed
