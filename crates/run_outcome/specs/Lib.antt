pub mod Status
pub mod Written
pub mod Binding
pub mod Outcome
pub mod Runs
pub mod FileSteps
pub mod FilesRead
pub mod Refusals
