pub mod Casts
pub mod Cmp
pub mod Laws
pub mod Op1
pub mod Op2
pub mod Signed
pub mod Width
