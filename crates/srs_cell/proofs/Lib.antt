pub mod Signs
pub mod Clip
pub mod Section
pub mod Extremes
pub mod Keeping
pub mod Boxed
pub mod BoxHull
pub mod Cuts
pub mod Areas
pub mod Closed
pub mod Divided
pub mod Least
pub mod Reaching
pub mod Infima
pub mod LeastFloors
pub mod OneSided
pub mod Lessening
pub mod FloorsBelow
pub mod Joining
pub mod Counting
pub mod Tightening
pub mod Parting
mod ShortDots
mod HeldFloors
