pub mod Analyses
pub mod Decoding
