pub mod Operations
pub mod Verdicts
