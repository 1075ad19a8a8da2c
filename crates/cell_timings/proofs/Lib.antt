pub mod TimingRules
pub mod Held
pub mod Told
