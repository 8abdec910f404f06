pub mod Arrivals
pub mod Fitting
pub mod Likeness
pub mod Pending
pub mod Settled
pub mod Tables
pub mod Traces
