pub mod Elements
pub mod Texts
