pub mod Format
pub mod Answers
