pub mod Prefixes
pub mod Passes
pub mod TurnWords
pub mod Holding
