pub mod Copying
pub mod NodeForms
pub mod Plainly
