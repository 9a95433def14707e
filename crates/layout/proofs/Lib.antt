pub mod Frames
pub mod Offsets
pub mod Meanings
pub mod Questions
pub mod Spelling
