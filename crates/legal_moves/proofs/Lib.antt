pub mod Around
pub mod BySpot
pub mod ByVertex
pub mod Closed
pub mod Pushing
mod Joined
mod Near
mod Taken
