pub mod Cavity
pub mod Filled
pub mod Parity
pub mod Balance
pub mod Swap
pub mod Replaced
