pub mod Least
pub mod Listing
pub mod Spans
pub mod Search
pub mod Halves
pub mod Marks
pub mod PairSets
pub mod Runs
