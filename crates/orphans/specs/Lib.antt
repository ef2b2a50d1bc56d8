pub mod Passing
pub mod Entry
pub mod Starting
