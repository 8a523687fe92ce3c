pub mod Homes
pub mod Posting
pub mod steps
