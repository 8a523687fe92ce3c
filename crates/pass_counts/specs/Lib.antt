pub mod Fourfold
