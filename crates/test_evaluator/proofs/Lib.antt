pub mod Libraries
pub mod Policies
