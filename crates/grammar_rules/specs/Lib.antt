pub mod Rule
pub mod Reading
pub mod Loose
pub mod Laws
