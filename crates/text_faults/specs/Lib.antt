pub mod ClaimFaultLines
pub mod TableFaultLines
