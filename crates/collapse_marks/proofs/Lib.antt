pub mod Classified
pub mod Corners
pub mod Opposite
pub mod Wings
pub mod Tests
pub mod At
pub mod Legal
pub mod Examples
