pub mod Plan
pub mod Winning
pub mod Bound
