pub mod PortDirections
pub mod Fitting
pub mod CoreNames
pub use Rattle.cell_machine.proofs as cell_machine
pub use Rattle.three_state_cells.proofs as three_state_cells
pub use Rattle.udp_tables.proofs as udp_tables
pub use Rattle.specify_blocks.proofs.cell_tables as cell_tables
