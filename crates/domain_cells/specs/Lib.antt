pub mod Instance
pub mod Views
