-- Laws of the modules that are generated for cells.
use Rattle.std.specs.Prelude.{List, [], map}
use Rattle.cell_machine.specs.CellData.{CellData}
use Rattle.verilog_grammar.specs.specify_blocks.Generated.{module_of}
use Rattle.verilog_grammar.specs.WellFormed.{IsWellFormedModule, AreWellFormed}
use Rattle.generated_modules.specs.Accepted.{AreAccepted}
use Rattle.generated_modules.specs.Cells.{IsNumberedCell, AreCellsOfOneLibrary}

-- the module of data that keep the rules of cells is well formed
abbrev pub ModuleIsWellFormed : Type 0
ModuleIsWellFormed = (cell : CellData) → IsNumberedCell cell → IsWellFormedModule (module_of cell)

-- the modules of the cells of one library are well formed together
abbrev pub ModulesAreWellFormed : Type 0
ModulesAreWellFormed = (cells : List CellData) → AreCellsOfOneLibrary cells → AreWellFormed (map module_of cells)

-- the accepted cells of a library are cells of one library
abbrev pub AcceptedAreOfOneLibrary : Type 0
AcceptedAreOfOneLibrary = (cells : List CellData) → AreAccepted 1 [] cells → AreCellsOfOneLibrary cells

-- so the modules of the accepted cells of a library are well formed together
abbrev pub AcceptedModulesAreWellFormed : Type 0
AcceptedModulesAreWellFormed = (cells : List CellData) → AreAccepted 1 [] cells → AreWellFormed (map module_of cells)
