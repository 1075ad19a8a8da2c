pub mod Lines
pub mod Audits
pub mod Outcome
pub mod Reads
pub mod Laws
