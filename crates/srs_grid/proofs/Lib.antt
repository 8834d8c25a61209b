pub mod Powers
pub mod Spreads
pub mod Axes
pub mod Shifts
pub mod Passing
pub mod Turning
pub mod Searching
