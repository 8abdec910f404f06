pub mod AddressesTold
pub mod FirstPiece
pub mod Greatest
pub mod Loops
pub mod SetsGrown
