pub use Rattle.module_terminals.specs as module_terminals
pub use Rattle.module_shapes.specs as module_shapes
pub use Rattle.module_tables.specs as module_tables
pub mod Matches
pub mod Verdict
pub mod Laws
