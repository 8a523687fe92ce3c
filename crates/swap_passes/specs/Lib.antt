pub mod SwapPasses
