pub mod Identities
pub mod Integers
pub mod PlaceOrder
pub mod Products
pub mod Reified
pub mod Ring
pub mod Roots
pub mod Volumes
