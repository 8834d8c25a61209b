pub mod Extremes
pub mod Rows
pub mod Spans
pub mod Moved
