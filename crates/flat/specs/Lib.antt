pub mod Flat
pub mod Tables
pub mod TablesLemmas
pub mod Laws
