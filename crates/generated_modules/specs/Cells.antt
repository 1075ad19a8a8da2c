-- Which cells stand together in one library. (This project's rules: a library's cells are numbered by their places, and one whose
-- name stood before is refused; which names Verilog text keeps.)
use Rattle.std.specs.Prelude.{ℕ, ◌<◌, ◌^◌, All, IsTrue, List, map, filter, nat_eq, bytes_eq}
use Rattle.std.specs.List.{IsDistinct}
use Rattle.verilog_tokens.specs.Kept.{is_kept_cell_name}
use Rattle.cell_machine.specs.CellRules.{is_cell}
use Rattle.cell_machine.specs.CellData.{CellData}

-- data that keep the rules of cells, with a number of at most 64 bits
pub record IsNumberedCell (cell : CellData) : Type 0 where
  pub rules : IsTrue (is_cell cell.name cell.pins cell.groups cell.outputs cell.checks cell.arcs)
  pub number : cell.number < 2 ^ 64

-- the names and the numbers of cells
abbrev pub names_of_cells : List CellData → List (List ℕ)
names_of_cells cells = map (λ (cell : CellData). cell.name) cells

abbrev pub numbers_of_cells : List CellData → List ℕ
numbers_of_cells cells = map (λ (cell : CellData). cell.number) cells

-- those of some names that Verilog text keeps
abbrev pub kept_names : List (List ℕ) → List (List ℕ)
kept_names names = filter is_kept_cell_name names

-- Cells of which no two have one number, or one name that Verilog text keeps. Another name is none of the names of their models.
pub record AreCellsOfOneLibrary (cells : List CellData) : Type 0 where
  pub numbered : All IsNumberedCell cells
  pub names : IsDistinct bytes_eq (kept_names (names_of_cells cells))
  pub numbers : IsDistinct nat_eq (numbers_of_cells cells)
