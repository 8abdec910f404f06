pub mod Calls
pub mod Closed
pub mod Entry
pub mod Laws
pub mod Opened
pub mod Tracked
