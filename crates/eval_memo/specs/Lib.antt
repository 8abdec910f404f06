pub mod Calls
pub mod Given
pub mod Memos
pub mod Ready
pub mod Settings
