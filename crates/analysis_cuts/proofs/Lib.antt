pub mod Choosing
pub mod FirstChoices
pub mod Stretching
pub mod Truth
