pub mod Cells
pub mod Keys
pub mod Parts
pub mod Pieces
pub mod Rows
