pub mod Firsts
pub mod Rules
pub mod Judged
pub mod Least
pub mod Finding
pub mod Appending
