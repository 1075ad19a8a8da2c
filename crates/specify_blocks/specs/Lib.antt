pub mod Nets
pub mod Sound
pub mod Ports
pub mod Names
pub mod Generated
pub mod Laws
