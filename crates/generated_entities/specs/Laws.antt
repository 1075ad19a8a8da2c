-- Laws of the entities that are generated for cells.
use Rattle.std.specs.Prelude.{ℕ, List}
use Rattle.cell_machine.specs.CellData.{CellData}
use Rattle.vhdl_grammar.specs.WellFormed.{IsWellFormedEntity, AreWellFormed}
use Rattle.generated_modules.specs.Cells.{IsNumberedCell, AreCellsOfOneLibrary}
use Rattle.generated_entities.specs.Library.{entity_behind, entities_of}

-- the entity of data that keep the rules of cells is well formed, where its name is given behind these
abbrev pub EntityIsWellFormed : Type 0
EntityIsWellFormed = (cell : CellData) (given : List (List ℕ)) → IsNumberedCell cell
    → IsWellFormedEntity (entity_behind given cell)

-- the entities of the cells of one library are well formed together
abbrev pub EntitiesAreWellFormed : Type 0
EntitiesAreWellFormed = (cells : List CellData) → AreCellsOfOneLibrary cells → AreWellFormed (entities_of cells)
