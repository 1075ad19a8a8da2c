-- Which cells, some of whose outputs may float, stand together in one library. (Liberty Reference Manual, `three_state`; that the
-- core of such a cell is called by its number is this project's form.)
use Rattle.std.specs.Prelude.{◌≡◌, ℕ, All, List, length, map, nat_eq, bytes_eq, if◌then◌else◌}
use Rattle.std.specs.List.{IsDistinct}
use Rattle.generated_drivers.specs.three_state_cells.Drivers.{IsDriverOf}
use Rattle.generated_drivers.specs.three_state_cells.DrivenCells.{DrivenData, core_name, may_float}
use Rattle.generated_drivers.specs.three_state_cells.Laws.{KeepsLimits}
use Rattle.generated_entities.specs.generated_modules.Cells.{IsNumberedCell, kept_names}

-- What the core of a cell is called: as the cell, or where some outputs may float by the cell's number.
abbrev pub name_of_core : DrivenData → List ℕ
name_of_core cell = if may_float cell then core_name cell.core.number else cell.name

-- A cell as one of a library: its core is a numbered cell that keeps the rules, and its driver is one of the core and keeps
-- limits.
pub record IsNumberedDriven (cell : DrivenData) : Type 0 where
  pub core : IsNumberedCell cell.core
  pub named : cell.core.name ≡ name_of_core cell
  pub driver : IsDriverOf cell.core cell.driver
  pub limits : KeepsLimits (length cell.core.pins) cell.driver

-- the names and the numbers of cells
abbrev pub own_names : List DrivenData → List (List ℕ)
own_names cells = map (λ (cell : DrivenData). cell.name) cells

abbrev pub own_numbers : List DrivenData → List ℕ
own_numbers cells = map (λ (cell : DrivenData). cell.core.number) cells

-- cells of which no two have one number
pub record AreNumberedApart (cells : List DrivenData) : Type 0 where
  pub numbered : All IsNumberedDriven cells
  pub numbers : IsDistinct nat_eq (own_numbers cells)

-- such cells, of which no two have one name that Verilog text keeps
pub record AreOfOneLibrary (cells : List DrivenData) : Type 0 where
  pub apart : AreNumberedApart cells
  pub names : IsDistinct bytes_eq (kept_names (own_names cells))
