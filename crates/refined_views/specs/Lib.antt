pub mod Refined
pub mod Laws
pub mod Repeated
pub mod LaterRounds
