pub mod Rows
pub mod Rounds
pub mod Growing
pub mod FaceByFace
pub mod ByFaces
