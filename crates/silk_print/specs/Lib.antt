pub mod Print
pub mod Claims
