mod DrivenPaths
mod ListedInputs
mod NamedTexts
mod NextBuffers
pub mod StandingDrivers
mod TextExamples
