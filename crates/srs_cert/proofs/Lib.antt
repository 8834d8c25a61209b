pub mod LineCounts
pub mod NodeLines
pub mod Preordered
pub mod LtParts
pub mod Descents
