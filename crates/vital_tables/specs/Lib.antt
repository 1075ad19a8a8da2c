pub mod Symbols
pub mod LookUps
pub mod RowWords
pub mod Rows
pub mod Sound
pub use Rattle.udp_tables.specs as udp_tables
