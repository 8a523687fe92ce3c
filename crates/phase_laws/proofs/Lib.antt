pub mod Draws
pub mod Ends
pub mod Events
pub mod Examples
pub mod Starts
pub mod Staying
pub mod Together
