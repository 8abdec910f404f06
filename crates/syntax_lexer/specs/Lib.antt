pub mod Bytes
pub mod FaultLines
pub mod Laws
pub mod Lexeme
pub mod Scanning
pub mod Source
