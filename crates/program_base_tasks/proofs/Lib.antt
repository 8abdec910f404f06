pub mod Asked
pub mod Bases
pub mod Seen
pub mod Sides
pub mod Ties
pub mod Working
