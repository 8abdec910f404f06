pub mod Entry
pub mod Summary
pub mod Words
