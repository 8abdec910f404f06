pub mod Blocks
pub mod Endings
pub mod Ends
pub mod Heads
pub mod Readings
pub mod Starts
pub mod Tables
pub mod Views
