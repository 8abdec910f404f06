mod Counters
mod Evaluated
mod Members
mod Outcomes
