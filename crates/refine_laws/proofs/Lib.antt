pub mod HalvedFaces
pub mod Own
pub mod Along
pub mod Parity
pub mod OnPieces
pub mod Sound
