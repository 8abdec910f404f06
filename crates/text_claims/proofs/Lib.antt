pub mod Fitting
pub mod Items
pub mod Places
pub mod ShortNumbers
pub mod Told
pub mod Words
