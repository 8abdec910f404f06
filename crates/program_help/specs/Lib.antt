pub mod Help
pub mod Laws
pub mod Pages
pub mod Views
