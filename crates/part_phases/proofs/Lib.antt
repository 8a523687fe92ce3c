pub mod Balances
pub mod Examples
pub mod Gathered
pub mod Inboxes
pub mod Kept
pub mod Owed
