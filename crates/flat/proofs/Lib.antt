pub mod Opens
pub mod Finds
