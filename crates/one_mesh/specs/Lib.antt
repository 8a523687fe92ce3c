pub mod Adaptation
pub mod Laws
pub mod Holding
pub mod Rounds
pub mod steps
