pub mod Signs
pub mod Steps
pub mod Cuts
pub mod Rows
