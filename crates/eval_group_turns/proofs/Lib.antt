pub mod Functions
pub mod Items
pub mod Turns
