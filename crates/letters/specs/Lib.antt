pub mod Grammar
pub mod Sharing
pub mod Fields
pub mod Entries
pub mod Bodies
pub mod Letters
