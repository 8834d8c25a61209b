pub mod PrefixLemmas
pub mod TurnSteps
