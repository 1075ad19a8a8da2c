pub mod Lists
pub mod ChangeInputs
pub mod Tables
pub mod LookUps
pub mod SameValues
