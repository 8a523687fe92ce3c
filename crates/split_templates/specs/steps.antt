-- Steps of the code, which no public contract names: no promise.
pub mod Kept
pub mod Putting
pub mod Ranks
