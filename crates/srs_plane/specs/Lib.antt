pub mod Regions
pub mod Bounded
pub mod Polygons
pub mod Placed
pub mod Convexity
pub mod Chains
