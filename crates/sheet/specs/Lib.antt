pub mod Sheet
pub mod Judging
