pub mod Best
pub mod Fitting
