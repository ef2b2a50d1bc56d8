pub mod Scans
pub mod Nearness
pub mod Rows
