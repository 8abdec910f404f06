pub mod Lists
pub mod Making
pub mod Parsed
pub mod Settled
pub mod Answering
pub mod Apart
