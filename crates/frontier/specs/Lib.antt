pub mod Judging
pub mod Growing
