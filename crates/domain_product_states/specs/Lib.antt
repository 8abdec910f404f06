pub mod Alike
pub mod Instance
pub mod Leaves
pub mod Parts
pub mod Views
