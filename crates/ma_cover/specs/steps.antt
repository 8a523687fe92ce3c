-- Steps of the code and no promise: no public contract names what stands here.
pub mod Closed
