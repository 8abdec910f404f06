pub mod Giving
pub mod OneSource
pub mod Readings
pub mod Steps
