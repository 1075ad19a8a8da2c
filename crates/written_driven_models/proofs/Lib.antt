pub mod Languages
pub mod NumberedDrives
pub mod DriverPorts
pub mod WireReading
pub mod TerminalReading
pub mod PathEndReading
pub mod WholeSections
pub mod VerilogTokens
pub mod VerilogPorts
pub mod VerilogReading
pub mod VerilogSections
pub mod VhdlNames
pub mod VhdlTokens
pub mod VhdlFacts
pub mod VhdlFronts
pub mod VhdlPathOrder
pub mod VhdlProcesses
pub mod VhdlLines
pub mod VhdlSections
pub mod VerilogOutlines
pub mod VitalOutlines
pub mod KeptApart
pub mod VerilogPieces
pub mod VitalPieces
pub mod ApartDrivers
pub mod CellPins
pub mod CellsHaveDrivers
pub mod VerilogDrivers
pub mod VitalDrivers
pub mod ReadCells
pub mod Cores
pub mod DriverNames
pub mod FirstCores
pub mod ModuleDrivers
pub mod NameForms
pub mod NamesApart
pub mod Together
pub use Rattle.generated_modules.proofs as generated_modules
pub use Rattle.generated_drivers.proofs.three_state_cells as three_state_cells
pub use Rattle.written_modules.proofs.grammar_reader as grammar_reader
pub use Rattle.written_entities.proofs as written_entities
pub use Rattle.written_modules.proofs as written_modules
