pub mod Cuts
pub mod Subjects
