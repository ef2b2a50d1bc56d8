pub mod Tones
pub mod Reach
pub mod Rows
