pub mod Turning
pub mod Victories
