pub mod Refinement
pub mod Laws
pub mod steps
