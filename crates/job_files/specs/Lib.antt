pub mod Answer
pub mod Partition
pub mod Schedule
pub mod Sizes
