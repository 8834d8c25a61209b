pub mod Reading
pub mod Marking
pub mod Paths
pub mod Descending
pub mod Meaning
pub mod Placing
pub mod Picking
pub mod Walking
