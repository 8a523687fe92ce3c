pub mod Cells
pub mod Filled
pub mod Counted
pub mod Seen
pub mod Stays
pub mod Adapts
