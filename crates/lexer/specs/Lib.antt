pub mod Spans
pub mod Tokens
pub mod Places
pub mod Separators
pub mod Numbers
pub mod WordGroups
pub mod Cover
pub mod Laws
