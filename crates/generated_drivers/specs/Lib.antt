pub mod Generated
pub mod Laws
pub use Rattle.cell_machine.specs as cell_machine
pub use Rattle.driver_models.specs as driver_models
pub use Rattle.specify_blocks.specs as specify_blocks
pub use Rattle.three_state_cells.specs as three_state_cells
pub use Rattle.udp_tables.specs as udp_tables
pub use Rattle.verilog_tokens.specs as verilog_tokens
pub use Rattle.vhdl_tokens.specs as vhdl_tokens
pub use Rattle.vital_models.specs as vital_models
