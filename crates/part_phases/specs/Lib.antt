pub mod Balance
pub mod Inboxes
pub mod Owed
pub mod Phases
pub mod Standings
