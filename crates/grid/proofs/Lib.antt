pub mod Signs
pub mod Places
pub mod Planes
pub mod Tiles
