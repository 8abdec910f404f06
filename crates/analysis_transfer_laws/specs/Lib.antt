pub mod Analysis
pub mod Laws
pub mod OpenRuns
pub mod Problem
pub mod Runs
pub mod Transfer
pub mod Uses
