pub mod Orders
pub mod Moved
pub mod Segments
pub mod Triangles
pub mod Examples
