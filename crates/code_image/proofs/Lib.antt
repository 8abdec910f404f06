mod Steps
pub mod Placing
pub mod Making
mod Sizes
mod WordBits
mod Groups
mod Fields
mod Words
pub mod Addresses
