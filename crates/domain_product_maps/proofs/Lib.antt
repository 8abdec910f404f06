pub mod Growing
pub mod Union
pub mod Maps
