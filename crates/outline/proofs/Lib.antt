pub mod Places
pub mod Rings
pub mod Edges
pub mod Fillings
pub mod Padding
pub mod Inking
pub mod Drawn
pub mod Refusing
