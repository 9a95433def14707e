pub mod Opening
pub mod RowFiles
