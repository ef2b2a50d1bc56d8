pub mod Scans
pub mod Choosing
