pub mod Edges
pub mod Pieces
pub mod steps
