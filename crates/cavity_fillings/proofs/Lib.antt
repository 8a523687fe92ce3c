pub mod Counts
pub mod Made
pub mod Apart
pub mod Examples
