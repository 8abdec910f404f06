pub mod Accepted
pub mod Cells
pub mod Differing
pub mod Fields
pub mod OneStates
pub mod ParsedNames
pub mod Reading
