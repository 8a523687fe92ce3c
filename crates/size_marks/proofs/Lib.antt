pub mod Bits
pub mod Blocks
pub mod Holders
pub mod Rows
pub mod Stored
