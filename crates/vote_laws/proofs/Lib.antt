pub mod Leads
pub mod Legal
pub mod Seen
pub mod Votes
pub mod Together
