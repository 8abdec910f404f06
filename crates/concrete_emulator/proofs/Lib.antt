mod Calls
mod Counters
mod Ends
mod Fetching
mod Lookups
mod Standing
mod States
pub mod Texts
