pub mod Working
pub mod Running
pub mod Crossing
pub mod Telling
