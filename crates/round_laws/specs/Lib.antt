pub mod Truths
pub mod Ends
