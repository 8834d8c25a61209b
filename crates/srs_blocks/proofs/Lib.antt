pub mod BlockLemmas
pub mod Crossing
