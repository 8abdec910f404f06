pub mod Arms
pub mod Deciding
pub mod Orders
pub mod Turning
