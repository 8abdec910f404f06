pub mod Calls
pub mod Groups
pub mod Recursion
pub mod Told
pub mod Laws
