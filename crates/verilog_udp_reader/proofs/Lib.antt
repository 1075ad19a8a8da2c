pub mod SameTokens
pub mod Words
pub mod Entries
pub mod Levels
pub mod NewNames
pub mod NearNames
pub mod Bodies
