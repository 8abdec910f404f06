pub mod Answers
pub mod Fitting
pub mod Likeness
pub mod Settled
pub mod Steps
pub mod Views
