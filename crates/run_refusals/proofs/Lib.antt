pub mod Conditions
pub mod Margins
pub mod Refusing
