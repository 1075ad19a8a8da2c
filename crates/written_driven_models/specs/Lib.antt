pub mod WrittenDrivers
pub mod Texts
pub mod Laws
pub mod Verilog
pub mod Vital
pub mod ApartDrivers
pub mod Library
pub mod VerilogLibrary
pub mod VitalLibrary
pub mod DriverLaws
pub mod LibraryLaws
pub use Rattle.generated_drivers.specs as generated_drivers
pub use Rattle.generated_drivers.specs.specify_blocks as specify_blocks
pub use Rattle.generated_drivers.specs.three_state_cells as three_state_cells
pub use Rattle.generated_drivers.specs.vital_models as vital_models
pub use Rattle.generated_entities.specs.generated_modules as generated_modules
pub use Rattle.liberty_groups.specs as liberty_groups
pub use Rattle.liberty_text.specs as liberty_text
pub use Rattle.verilog_drivers.specs as verilog_drivers
pub use Rattle.written_modules.specs.verilog_grammar as verilog_grammar
pub use Rattle.vhdl_drivers.specs as vhdl_drivers
pub use Rattle.written_entities.specs.vhdl_grammar as vhdl_grammar
pub use Rattle.written_entities.specs.vhdl_tokens as vhdl_tokens
pub use Rattle.written_entities.specs.vhdl_writer as vhdl_writer
