pub mod Leading
pub mod Voting
pub mod OwedVotes
