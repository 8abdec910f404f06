pub mod InvariantLaws
pub mod Domains
pub mod Laws
pub mod Notes
pub mod Tables
pub mod Values
