pub mod GhostRule
