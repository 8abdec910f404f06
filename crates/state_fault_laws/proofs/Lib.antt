pub mod Faults
pub mod Names
pub mod Told
pub mod Trees
pub mod Types
pub mod Terms
pub mod Texts
