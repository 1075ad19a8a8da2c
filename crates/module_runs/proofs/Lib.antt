pub mod OutputPathLemmas
pub mod DriverLemmas
pub mod ModuleSteps
pub mod WiringLemmas
pub mod FedLemmas
pub mod KeptLemmas
pub mod GateLemmas
