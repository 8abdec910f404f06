pub mod Blocking
pub mod OpenBlocking
pub mod Plain
pub mod Segments
pub mod Three
