pub mod Analysis
pub mod Counters
pub mod Instance
pub mod Outcomes
