pub mod FirstLine
pub mod Steps
pub mod TextOfLines
