pub mod PartText
pub mod ReadsBack
pub mod Text
pub mod steps
