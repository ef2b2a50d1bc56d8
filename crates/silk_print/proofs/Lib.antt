pub mod Digits
pub mod Printing
pub mod Cells
pub mod Outcome
pub mod Lengths
pub mod Rereading
pub mod RoundTrip
