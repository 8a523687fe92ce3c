pub mod Forms
pub mod Overlap
pub mod Laws
pub mod steps
