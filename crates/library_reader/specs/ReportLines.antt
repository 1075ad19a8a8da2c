-- The lines of the report on the cells of a library (this project's format). Cells are numbered from 1 by their place
-- among all cells of the library.
use Rattle.std.specs.Prelude.{ℕ, List, ◌++◌, codes, decimal}
use Rattle.cell_reader.specs.declared.refusal.Refusal.{Refusal}
use Rattle.library_reader.specs.CellLines.{printed_name, refusal_line}

-- the front of a line on a cell: its number and its name
unfoldable pub cell_text : ℕ → List ℕ → List ℕ
cell_text number name = codes "cell " ++ (decimal number ++ (codes " " ++ printed_name name))

-- a cell that is accepted
unfoldable pub accepted_line : ℕ → List ℕ → List ℕ
accepted_line number name = cell_text number name ++ codes " ok\n"

-- a cell that is refused
unfoldable pub refused_line : ℕ → List ℕ → Refusal → List ℕ
refused_line number name refusal = cell_text number name ++ refusal_line refusal

-- the last line of a library that was read to its end
unfoldable pub totals_line : ℕ → ℕ → List ℕ
totals_line accepted refused = codes "accepted " ++ (decimal accepted ++ (codes " refused " ++ (decimal refused ++ codes "\n")))
