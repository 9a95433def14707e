pub mod Plans
pub mod Counting
pub mod Packing
pub mod Sizes
pub mod Step
pub mod Forces
pub mod Verdicts
