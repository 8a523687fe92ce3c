pub mod Ranked
pub mod Rows
