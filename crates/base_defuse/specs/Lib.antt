pub mod Instance
pub mod Meaning
pub mod Notes
