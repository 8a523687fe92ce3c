pub mod Collapses
