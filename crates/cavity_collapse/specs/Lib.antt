pub mod Collapsing
pub mod Curves
pub mod Surfaces
pub mod Rims
pub mod Facing
pub mod Judging
pub mod Steps
