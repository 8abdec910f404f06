pub mod Meets
pub mod Frames
pub mod Rows
pub mod Lowering
pub mod Tails
pub mod Groups
pub mod Calls
