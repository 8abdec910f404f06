pub mod Faults
pub mod Patterns
pub mod Laws
