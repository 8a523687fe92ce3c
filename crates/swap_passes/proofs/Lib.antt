pub mod Chosen
pub mod Cavities
pub mod Marks
pub mod Adapts
pub mod InTurn
pub mod Examples
