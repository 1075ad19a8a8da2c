pub mod Drives
pub mod DriveDelays
pub mod Drivers
pub mod DrivenLines
pub mod DrivenStands
pub mod Laws
