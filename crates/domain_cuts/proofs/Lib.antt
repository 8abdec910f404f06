pub mod Cutting
pub mod Placing
