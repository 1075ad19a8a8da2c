pub mod RowLaws
pub mod Kept
pub mod Ports
pub mod Generated
pub mod Laws
pub use Rattle.vital_tables.specs.Symbols as Symbols
pub use Rattle.vital_tables.specs.LookUps as LookUps
pub use Rattle.vital_tables.specs.RowWords as RowWords
pub use Rattle.vital_tables.specs.Rows as Rows
pub use Rattle.vital_tables.specs.Sound as Sound
