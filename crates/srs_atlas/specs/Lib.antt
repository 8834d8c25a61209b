pub mod Frontiers
pub mod Books
pub mod Commits
pub mod Counting
