-- What is read of a cell in which the alike pins of buses and bundles are gathered.
use Rattle.std.specs.Prelude.{◌≡◌, ℕ, List, Option}
use Rattle.liberty_text.specs.declared.time.Unit.{Unit}
use Rattle.liberty_groups.specs.declared.tree.Group.{Group}
use Rattle.three_state_cells.specs.DrivenCells.{driven_data}
use Rattle.three_state_cells.specs.Refusals.{driven_refusal}
use Rattle.bus_texts.specs.declared.bus_types.BusType.{BusType}
use Rattle.bank_cells.specs.Expanded.{expanded}
use Rattle.bank_cells.specs.Gathered.{gathered}

-- One cell is refused where another one is, by the same reason at the same offset, and the same is read of both.
pub record IsReadAs (one other : Group) : Type 0 where
  pub same_refusal : (unit : Option Unit) (earlier : List (List ℕ))
      → driven_refusal unit earlier one ≡ driven_refusal unit earlier other
  pub same_data : (unit : Option Unit) (number : ℕ) → driven_data unit number one ≡ driven_data unit number other

-- A gathered cell is read as the expanded one.
abbrev pub GatheredCellsAreReadAsExpanded : Type 0
GatheredCellsAreReadAsExpanded =
    (types : List BusType) (cell : Group) → IsReadAs (gathered types cell) (expanded types cell)
