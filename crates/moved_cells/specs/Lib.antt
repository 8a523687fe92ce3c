pub mod Cells
pub mod Segments
pub mod Triangles
