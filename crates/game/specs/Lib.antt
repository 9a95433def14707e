pub mod Turns
pub mod Loads
pub mod Settling
pub mod Opening
pub mod Law
pub mod Outcomes
