pub mod Outcomes
pub mod Room
