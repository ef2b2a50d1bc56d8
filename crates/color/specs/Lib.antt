pub mod Lab
pub mod Least
