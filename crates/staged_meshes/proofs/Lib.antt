pub mod OneStage
pub mod Sets
pub mod OneLabel
pub mod StagesShared
pub mod Examples
