pub mod Code
pub mod Views
pub mod Valid
pub mod Asks
pub mod Sizes
pub mod Lowered
pub mod Scopes
pub mod Laws
