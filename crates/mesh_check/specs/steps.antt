pub mod Ties
pub mod Neighbours
pub mod ShiftedPlaces
pub mod Tetrahedra
pub mod FoundMarks
