pub mod Truths
pub mod Views
