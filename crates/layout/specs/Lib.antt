pub mod Layout
pub mod Keys
