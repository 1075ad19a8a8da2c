pub mod Formats
pub mod Languages
pub mod ModelNames
pub mod Limits
pub mod FaultLines
pub mod ModelAnswer
pub mod StimulusAnswer
pub mod Known
