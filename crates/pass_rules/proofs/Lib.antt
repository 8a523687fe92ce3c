pub mod AnyOrder
pub mod Apart
pub mod AtOnce
pub mod Kept
mod Rows
