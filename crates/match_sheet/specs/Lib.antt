pub mod Sheet
pub mod Saying
