pub mod Shape
pub mod SameShape
