pub mod Steps
pub mod Planes
pub mod Tiles
