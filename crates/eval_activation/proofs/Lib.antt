pub mod Going
pub mod JoinedYields
pub mod Readiness
