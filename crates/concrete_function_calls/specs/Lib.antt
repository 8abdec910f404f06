pub mod Arguments
pub mod Calls
pub mod Ends
pub mod Laws
pub mod Written
