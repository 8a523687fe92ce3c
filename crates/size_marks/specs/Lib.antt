pub mod Field
pub mod steps
