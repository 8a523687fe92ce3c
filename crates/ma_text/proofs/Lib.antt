pub mod Firsts
pub mod LineCuts
pub mod LineSteps
pub mod Values
pub mod WordCuts
