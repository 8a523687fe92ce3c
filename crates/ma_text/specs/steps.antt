-- Steps of the code: no public contract names them, and nothing here is a promise.
pub mod Digits
pub mod LineEnds
