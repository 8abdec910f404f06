pub mod Best
pub mod Digits
