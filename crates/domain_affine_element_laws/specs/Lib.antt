pub mod Closed
pub mod Elements
pub mod Entry
pub mod Laws
pub mod Membership
pub mod Opened
pub mod Ranks
pub mod Tracked
