pub mod Filled
pub mod Delivering
pub mod After
pub mod Applying
pub mod Next
