pub mod Levels
pub mod FloorRanges
