pub mod SumLemmas
pub mod ClaimSteps
pub mod Crossing
