pub mod Laws
pub mod AcceptedLaws
pub mod CheckerLaws
pub mod Typed
