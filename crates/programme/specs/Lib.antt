pub mod Programmes
