pub mod Seen
pub mod Told
pub mod Ranked
pub mod Settled
