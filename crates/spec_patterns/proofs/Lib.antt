pub mod Lists
pub mod Steps
pub mod Found
pub mod Suits
pub mod Variables
