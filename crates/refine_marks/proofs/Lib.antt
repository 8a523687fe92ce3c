pub mod Parted
pub mod OnHalves
pub mod CellsKept
pub mod Classified
