pub mod Fitting
pub mod Listened
pub mod Crossing
