pub mod Arms
pub mod Calls
pub mod Joins
pub mod Runs
pub mod Views
