pub mod Empty
pub mod Picking
pub mod Raising
pub mod LeastLoads
pub mod FullestLoads
pub mod LowestLoads
pub mod Declining
