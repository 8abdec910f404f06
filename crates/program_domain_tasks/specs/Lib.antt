pub mod Claims
pub mod Closed
pub mod Measures
pub mod Own
pub mod Prepared
pub mod Read
pub mod Slices
