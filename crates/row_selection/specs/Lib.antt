pub mod Selection
pub mod NextStates
pub mod Laws
