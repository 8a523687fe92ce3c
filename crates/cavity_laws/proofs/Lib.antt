pub mod Totals
pub mod Cavities
pub mod Balance
pub mod Parity
pub mod Swaps
pub mod Replaced
pub mod Examples
