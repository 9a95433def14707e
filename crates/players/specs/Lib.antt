pub mod Placing
pub mod Choosing
pub mod Fitting
pub mod Held
