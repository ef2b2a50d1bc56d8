pub mod FactsRows
pub mod Sizes
