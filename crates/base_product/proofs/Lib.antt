pub mod Kept
pub mod PairParts
