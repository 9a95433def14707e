pub mod Entering
pub mod Idle
pub mod Printing
