pub mod Digits
pub mod Keys
pub mod Places
