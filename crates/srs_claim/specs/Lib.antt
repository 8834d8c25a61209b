pub mod Numbers
pub mod ClaimWord
pub mod Drawings
