pub mod Marks
pub mod Told
pub mod Sections
pub mod Fronts
