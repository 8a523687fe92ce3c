pub mod Rings
pub mod Swapping
pub mod Judging
pub mod Outer
pub mod Steps
