pub mod Fields
pub mod Fits
pub mod Bits
pub mod Rows
pub mod Decoded
pub mod Views
pub mod Laws
