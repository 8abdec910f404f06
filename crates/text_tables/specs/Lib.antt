pub mod Blocks
pub mod Heads
pub mod Laws
pub mod Open
pub mod Tables
