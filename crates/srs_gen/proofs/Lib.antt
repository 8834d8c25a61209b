pub mod Drawn
pub mod Triangles
pub mod Spelled
