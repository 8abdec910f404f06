pub mod Constructors
pub mod Same
pub mod View
pub mod Ways
