pub mod Members
pub mod Fan
pub mod Ring_of_vertices
pub mod Near
pub mod Sizes
pub mod Inside
pub mod Growing
