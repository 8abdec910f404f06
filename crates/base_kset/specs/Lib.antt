pub mod Adding
pub mod Best
pub mod Changes
pub mod Instance
pub mod Meaning
pub mod Same
pub mod Sets
