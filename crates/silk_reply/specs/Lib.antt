pub mod Reply
pub mod Claims
