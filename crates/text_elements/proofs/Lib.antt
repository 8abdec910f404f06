pub mod Appending
pub mod CellLines
pub mod PartLines
pub mod RowLines
