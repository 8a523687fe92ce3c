pub mod Owners
pub mod Boxes
pub mod Sieves
