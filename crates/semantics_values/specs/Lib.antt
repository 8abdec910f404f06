pub mod Values
pub mod Types
pub mod States
pub mod Views
