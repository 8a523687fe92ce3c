pub mod Carried
pub mod Post
pub mod Take
pub mod Queue
pub mod Schedule
pub mod Tested
pub mod steps
