pub mod Beginning
pub mod Drawing
pub mod Handing
pub mod Tracking
pub mod Turns
pub mod Uniting
