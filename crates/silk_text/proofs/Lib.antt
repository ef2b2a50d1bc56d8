pub mod Laying
pub mod Repeating
pub mod Whole
pub mod Keeping
