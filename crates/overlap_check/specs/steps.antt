-- Steps of the code and no promise: no public contract names what stands here.
pub mod Pairs
pub mod Boxes
pub mod Cubes
