pub mod Typing
pub mod Steps
pub mod Values
pub mod Written
