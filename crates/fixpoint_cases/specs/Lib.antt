pub mod ByCases
pub mod Cases
pub mod Laws
pub mod Lists
pub mod Narrowing
pub mod Pieces
pub mod Same
pub mod Sent
