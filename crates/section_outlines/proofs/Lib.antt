pub mod Offsets
pub mod SectionsOutline
pub mod Passing
pub mod Outlined
