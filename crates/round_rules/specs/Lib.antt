pub mod Stages
pub mod Bodies
pub mod Rounds
pub mod Owed
pub mod Laws
