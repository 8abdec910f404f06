pub mod Lengths
pub mod Taken
pub mod Scoped
pub mod Bodies
pub mod Asking
