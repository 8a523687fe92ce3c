mod Found
mod OneStar
pub mod Stays
pub mod Examples
