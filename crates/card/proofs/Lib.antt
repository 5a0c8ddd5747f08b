pub mod Answers
pub mod SeenTables
