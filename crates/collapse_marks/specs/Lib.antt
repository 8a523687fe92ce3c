pub mod Marks
pub mod Legal
