pub mod Points
pub mod Lines
pub mod Floor
