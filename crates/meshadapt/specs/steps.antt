-- What the steps of the code mean. No public contract names it, and it is no promise.
pub mod Asking
pub mod Fetching
pub mod Running
pub mod OverRounds
pub mod Storing
