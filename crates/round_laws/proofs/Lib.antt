pub mod Phases
pub mod Places
pub mod Following
pub mod AllRounds
