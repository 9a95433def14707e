pub mod RowLoads
pub mod Progress
pub mod Keeping
pub mod Starting
