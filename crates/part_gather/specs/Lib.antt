pub mod Gathering
pub mod Ordered
pub mod OwedGathering
