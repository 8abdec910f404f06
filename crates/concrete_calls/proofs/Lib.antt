pub mod Answered
pub mod Exact
pub mod Meant
pub mod Same
pub mod Single
pub mod Typed
pub mod Views
