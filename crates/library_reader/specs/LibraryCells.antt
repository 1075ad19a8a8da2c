-- The cells of a library as definitions speak of them: functions of what the library says. (Liberty Reference Manual, the `cell`
-- group.)
use Rattle.std.specs.Prelude.{ℕ, List, map, if◌then◌else◌}
use Rattle.cell_reader.specs.declared.refusal.Refusal.{Refusal}
use Rattle.three_state_cells.specs.DrivenCells.{DrivenData, driven_data_of, may_float}
use Rattle.vital_models.specs.Kept.{entity_name, driver_name}
use Rattle.library_reader.specs.declared.library_cell.LibraryCell.{LibraryCell}
use Rattle.library_reader.specs.declared.library_cell.LibraryCell.TheVariants as kept

-- a cell that is accepted, with the name of its VITAL model, or one that is refused
pub data CellEntry : Type 0 where
  Accepted : (cell : DrivenData) (entity : List ℕ) → CellEntry
  Refused : (name : List ℕ) (refusal : Refusal) → CellEntry

-- the same without the rules that a cell keeps
abbrev pub described : LibraryCell → CellEntry
described (kept.Accepted cell entity) = Accepted (driven_data_of cell) entity
described (kept.Refused name refusal) = Refused name refusal

-- the cells of a library so
abbrev pub all_described : List LibraryCell → List CellEntry
all_described cells = map described cells

-- the name of a cell
abbrev pub name_of : CellEntry → List ℕ
name_of (Accepted cell entity) = cell.name
name_of (Refused name refusal) = name

abbrev pub cell_names : List CellEntry → List (List ℕ)
cell_names cells = map name_of cells

-- The name of the VITAL model of a cell, behind models with these names in lower case: that of its entity, or of the entity of
-- its drivers where some outputs may float.
abbrev pub vital_name : List (List ℕ) → DrivenData → List ℕ
vital_name given cell =
    if may_float cell then driver_name cell.core.number given cell.name else entity_name cell.core.number given cell.core.name
