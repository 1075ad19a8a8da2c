pub mod WholeAnswers
pub mod KnownThings
