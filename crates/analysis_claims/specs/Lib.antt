pub mod Instance
pub mod Seen
pub mod Tables
pub mod Words
