pub mod CheckedStates
pub mod Entries
pub mod Ordered
pub mod States
pub mod WellPosed
