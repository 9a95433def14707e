pub mod Orders
pub mod Halving
pub mod Rising
