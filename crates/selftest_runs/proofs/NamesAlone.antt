-- Names of entities of cells, and cells that stand alone in a library.
use Rattle.std.proofs.Common.{◌≡◌, ℕ, ◌<◌, ◌^◌, Bool, IsTrue, List, [], ◌∷◌, if◌then◌else◌, sym, ap, ◌∙◌, nat_eq}
use Rattle.std.specs.List.{IsDistinct}
use Rattle.std.specs.Str.{bytes_eq}
use Rattle.std.proofs.lemmas.List.Elements.{All-nil, All-cons}
use Rattle.std.proofs.lemmas.Map.Keys.{IsDistinct-cons}
use Rattle.cell_machine.specs.CellRules.{is_cell}
use Rattle.cell_machine.specs.CellData.{CellData}
use Rattle.vital_models.specs.Kept.{entity_name, driver_name}
use Rattle.three_state_cells.specs.DrivenCells.{DrivenData, driven_data_of}
use Rattle.library_reader.specs.LibraryCells.{vital_name}
use Rattle.library_reader.specs.Progress.{next_entity}
use Rattle.generated_modules.specs.Cells.{IsNumberedCell, AreCellsOfOneLibrary}
use Rattle.generated_modules.proofs.KeptNames.{with_distinct_names}
use Rattle.selftest_runs.specs.EntityNames.{IsNameWherePlain, NextCellsHaveEntityNames}

-- the name of a cell's VITAL model behind models with these names
named_behind : (given : List (List ℕ)) (cell : DrivenData) (name : List ℕ) → name ≡ vital_name given cell
    → IsNameWherePlain cell name
named_behind given cell name e plain = record {
  given = given;
  is = e ∙ ap (λ b. if b then driver_name cell.core.number given cell.name else entity_name cell.core.number given cell.core.name)
      plain;
}

pub next_names : NextCellsHaveEntityNames
unfolding next_entity
next_names p group cell entity h =
    named_behind p.entities (driven_data_of cell) entity (h.same_entity ∙ sym (ap (vital_name p.entities) h.same_cell))

-- one thing is apart from all others
pub one_apart : {X : Type 0} (same : X → X → Bool) (x : X) → IsDistinct same (x ∷ [])
unfolding IsDistinct
one_apart same x = IsDistinct-cons same x [] tt tt

pub numbered : (cell : CellData) → IsTrue (is_cell cell.name cell.pins cell.groups cell.outputs cell.checks cell.arcs)
    → cell.number < 2 ^ 64
    → IsNumberedCell cell
numbered cell rules number = record { rules = rules; number = number }

-- a cell alone is a library
pub one_cell : (cell : CellData) → IsNumberedCell cell → AreCellsOfOneLibrary (cell ∷ [])
one_cell cell h =
    with_distinct_names (cell ∷ []) (All-cons IsNumberedCell cell [] h (All-nil IsNumberedCell)) (one_apart bytes_eq cell.name)
    (one_apart nat_eq cell.number)
