pub mod Differences
pub mod Exact
pub mod Sums
