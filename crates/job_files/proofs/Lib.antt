pub mod BoxLines
pub mod Numbers
