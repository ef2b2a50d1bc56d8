pub mod Places
pub mod Outputs
pub mod Numbers
pub mod Refusals
pub mod Doubles
