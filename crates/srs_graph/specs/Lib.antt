pub mod Networks
pub mod Marks
pub mod Descents
pub mod Listings
pub mod Walks
