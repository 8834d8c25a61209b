pub mod FrontierLemmas
pub mod Entries
pub mod Crossing
pub mod Pushing
pub mod Walking
pub mod FrontierSteps
pub mod Parts
