pub mod Analysis
pub mod Instance
pub mod Pieces
