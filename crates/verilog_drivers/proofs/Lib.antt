pub mod StandingDrivers
mod TextExamples
