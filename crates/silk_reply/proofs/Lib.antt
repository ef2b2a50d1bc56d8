pub mod Fitting
pub mod Putting
pub mod Replying
pub mod Lending
