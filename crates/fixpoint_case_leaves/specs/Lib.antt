pub mod Instance
pub mod Places
pub mod Views
