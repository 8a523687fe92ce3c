pub mod Items
pub mod Lines
pub mod InPlane
pub mod OverLinks
pub mod Near
pub mod Fans
pub mod Planes
pub mod Examples
