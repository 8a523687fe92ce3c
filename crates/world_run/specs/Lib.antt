pub mod Drawn
pub mod Meshes
pub mod Replay
pub mod Rounds
pub mod Told
pub mod Union
pub mod Views
pub mod steps
