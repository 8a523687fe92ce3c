pub mod MarksLeft
