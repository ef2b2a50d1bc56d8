pub mod Steps
pub mod Targets
pub mod Groups
pub mod Polling
pub mod Agreeing
pub mod Judging
pub mod Judges
