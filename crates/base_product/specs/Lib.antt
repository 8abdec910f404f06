pub mod Instance
pub mod Meaning
