pub mod Fronts
pub mod Held
pub mod Sure
