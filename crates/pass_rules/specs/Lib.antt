pub mod Changes
pub mod Choosing
pub mod Keeping
pub mod Moves
pub mod Passes
