pub mod Step
pub mod Finiteness
pub mod Links
pub mod Orbits
pub mod Chase
