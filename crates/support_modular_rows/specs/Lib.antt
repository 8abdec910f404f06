pub mod Forms
pub mod Laws
pub mod Multiples
pub mod Rank
pub mod Reduction
pub mod Submodule
pub mod Values
