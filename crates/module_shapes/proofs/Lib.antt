pub mod Asked
pub mod ShapeLaws
