pub mod CollapsePasses
