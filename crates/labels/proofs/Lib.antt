pub mod Filling
pub mod Flooding
pub mod Seen
pub mod Answers
