pub mod Front
pub mod LineAnswers
pub mod LineByLine
pub mod LinesRead
