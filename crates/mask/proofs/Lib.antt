pub mod Windows
pub mod Lines
pub mod Square
pub mod Answers
pub mod Cells
