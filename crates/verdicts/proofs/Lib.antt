pub mod Choosing
pub mod Stepping
pub mod Spans
pub mod Votes
pub mod Agrees
pub mod Keeping
pub mod Nearby
pub mod Verdicts
