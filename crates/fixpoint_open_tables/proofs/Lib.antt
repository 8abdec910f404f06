pub mod Differing
pub mod Gathered
pub mod Places
pub mod Shut
pub mod Soundness
pub mod Truth
pub mod Verdicts
