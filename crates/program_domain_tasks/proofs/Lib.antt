pub mod Asked
pub mod Fitting
pub mod Measuring
pub mod Owning
pub mod Working
