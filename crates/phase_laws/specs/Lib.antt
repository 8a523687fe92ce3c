pub mod Drawing
pub mod Lockstep
pub mod Truth
