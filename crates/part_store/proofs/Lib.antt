pub mod Members
pub mod Agreeing
mod Owners
mod FoundMarks
mod Gathered
mod BoxedPlaces
mod OwnMarks
mod Sieved
