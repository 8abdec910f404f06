pub mod OwningEndings
pub mod OwningOpen
pub mod Working
