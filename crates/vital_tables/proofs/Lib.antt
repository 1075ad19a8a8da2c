pub mod RowWordLemmas
pub mod FreeColumns
pub use Rattle.udp_tables.proofs as udp_tables
