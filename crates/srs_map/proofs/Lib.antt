pub mod StepBounds
pub mod Cycles
pub mod Races
pub mod Ends
pub mod Brunotte
pub mod FormStep
