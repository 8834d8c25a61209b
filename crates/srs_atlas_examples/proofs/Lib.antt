mod Crossing
mod Roots
