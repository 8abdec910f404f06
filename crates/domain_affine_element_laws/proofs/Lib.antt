pub mod Closed
pub mod Elements
pub mod Membership
pub mod Opened
pub mod Ranks
pub mod Tracked
pub mod Units
