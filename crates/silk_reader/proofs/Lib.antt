pub mod Chaining
pub mod Scanning
