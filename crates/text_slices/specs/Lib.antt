pub mod Asked
pub mod Writing
