pub mod Emulators
pub mod Ends
pub mod Instructions
pub mod Laws
pub mod States
pub mod Values
