mod Examples
pub mod DrivenTraces
pub mod DrivePlaces
pub mod DrivenOutputs
