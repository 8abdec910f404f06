pub mod Plans
pub mod Views
pub mod Laws
