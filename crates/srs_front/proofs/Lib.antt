pub mod RowLemmas
pub mod WalkLemmas
pub mod ChangeLemmas
pub mod HeldLemmas
pub mod Crossing
