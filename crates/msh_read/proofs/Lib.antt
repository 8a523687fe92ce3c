pub mod Dimensions
pub mod Each
pub mod ElementNumbers
pub mod EndLines
pub mod NameOrder
pub mod SectionWise
