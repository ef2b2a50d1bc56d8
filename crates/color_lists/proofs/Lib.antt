pub mod Fillings
pub mod Answers
