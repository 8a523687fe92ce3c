pub mod Begins
pub mod Bodies
pub mod Ends
pub mod Rounds
pub mod Owed
