-- The names that entities of a cell may have. This project's rule.
use Rattle.std.specs.Prelude.{◌≡◌, ℕ, false, List}
use Rattle.liberty_groups.specs.declared.tree.Group.{Group}
use Rattle.cell_machine.specs.CellData.{CellData}
use Rattle.three_state_cells.specs.declared.driven_cell.DrivenCell.{DrivenCell}
use Rattle.three_state_cells.specs.DrivenCells.{DrivenData, driven_data_of, may_float}
use Rattle.vital_models.specs.Kept.{entity_name}
use Rattle.library_reader.specs.declared.progress.Progress.{Progress}
use Rattle.library_reader.specs.NextCells.{IsAcceptedNext}

-- a name that an entity of the cell has, behind entities with these names in lower case
pub record IsNameOfEntity (cell : CellData) (name : List ℕ) : Type 0 where
  pub given : List (List ℕ)
  pub is : name ≡ entity_name cell.number given cell.name

-- a name that the entity of the cell has, where none of its outputs may float
abbrev pub IsNameWherePlain : DrivenData → List ℕ → Type 0
IsNameWherePlain cell name = may_float cell ≡ false → IsNameOfEntity cell.core name

-- the name of the VITAL model of the next cell that is accepted is one
abbrev pub NextCellsHaveEntityNames : Type 0
NextCellsHaveEntityNames =
    (p : Progress) (group : Group) (cell : DrivenCell) (entity : List ℕ) → IsAcceptedNext p group cell entity
    → IsNameWherePlain (driven_data_of cell) entity
