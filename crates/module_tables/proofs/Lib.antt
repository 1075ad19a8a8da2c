pub mod ListNumbers
pub mod Firsts
pub mod TableLaws
pub mod NetOrder
pub mod KeptKeys
pub mod StepStates
