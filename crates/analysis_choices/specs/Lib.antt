pub mod Choice
pub mod Comparisons
pub mod Cuts
pub mod Laws
pub mod Matches
pub mod Symbols
pub mod Views
