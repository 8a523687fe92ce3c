pub mod Labelled
pub mod Stores
pub mod Agreement
pub mod steps
