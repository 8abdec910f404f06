pub mod Alike
pub mod Made
pub mod Mapped
pub mod Maps
pub mod Seen
pub mod Tests
pub mod Values
pub mod Walks
