pub mod Points
pub mod Covers
pub mod Sides
pub mod Parity
pub mod Sounds
pub mod FivePlaces
pub mod Adapted
