pub mod Graph
pub mod Table
pub mod Marks
pub mod Laws
