pub mod Faults
pub mod Rules
pub mod Scopes
pub mod Least
pub mod Certificates
pub mod Lawful
pub mod Contents
