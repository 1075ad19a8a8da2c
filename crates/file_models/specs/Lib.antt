pub mod FileModels
pub mod Folded
pub use Rattle.bool_functions.specs as bool_functions
pub use Rattle.driver_models.specs as driver_models
pub use Rattle.driver_sections.specs as driver_sections
pub use Rattle.sectioned_texts.specs as sectioned_texts
pub use Rattle.cell_machine.specs as cell_machine
pub use Rattle.stimulus.specs as stimulus
pub use Rattle.udp_tables.specs as udp_tables
