pub mod Filled
pub mod Made
pub mod Numbered
pub mod Taken
