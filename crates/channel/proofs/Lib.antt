pub mod Entries
pub mod Tests
pub mod Tables
pub mod Patterns
pub mod Thresholds
pub mod Curve
