pub mod Fitting
pub mod Picking
pub mod Putting
pub mod Steps
