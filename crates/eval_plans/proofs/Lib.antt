pub mod Planned
pub mod Planning
pub mod Giving
pub mod Fitting
