pub mod Skipping
pub mod Digits
