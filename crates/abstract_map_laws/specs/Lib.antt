pub mod Calls
pub mod Cells
pub mod Keys
pub mod Laws
pub mod Maps
