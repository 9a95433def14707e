pub mod Inserting
pub mod Reading
