pub mod Room
pub mod Standing
pub mod Rows
pub mod Drawing
