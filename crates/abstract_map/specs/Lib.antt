pub mod Merged
pub mod Placed
pub mod Same
pub mod Unfolded
pub mod View
