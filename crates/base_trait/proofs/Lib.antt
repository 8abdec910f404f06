pub mod Covering
pub mod Lists
pub mod Stamps
pub mod Tests
