pub mod Chain
pub mod Fronts
pub mod Holding
pub mod Indices
pub mod Lines
