pub mod Passes
pub mod Functions
pub mod Check
pub mod Views
pub mod Steps
pub mod Laws
