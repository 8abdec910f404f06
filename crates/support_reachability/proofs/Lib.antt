pub mod Marks
pub mod Searching
pub mod Rows
pub mod Groups
pub mod Ranks
pub mod Tables
