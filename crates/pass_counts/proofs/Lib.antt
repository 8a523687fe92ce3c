mod Counts
mod Cones
mod Triples
mod Sides
mod Outer
mod Fillings
pub mod Fourfold
