pub mod Near
pub mod Room
