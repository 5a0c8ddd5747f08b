pub mod Changes
pub mod Answer
