pub mod PieceMarks
pub mod RefinedItems
pub mod RefinedMesh
pub mod Eightfold
pub mod Beginnings
pub mod NextMesh
pub mod NextRound
pub mod AsMany
