pub mod Outcomes
pub mod Steps
pub mod Direct
pub mod Tails
pub mod Decode
pub mod Runs
pub mod Entries
