pub mod Marking
pub mod Taking
