pub mod Twos
pub mod Divisions
