-- Which cells are written whole however a translation ends. This project's promise.
use Rattle.std.specs.Prelude.{ℕ, ◌+◌, ◌≤◌, List, take}
use Rattle.cell_cursor.specs.Given.{closed_items, most_beyond}
use Rattle.verilog_writer.specs.Model.{prelude_text}
use Rattle.run_outcome.specs.Written.{Written, in_verilog, joined, IsPart}
use Rattle.library_reader.specs.Progress.{no_progress}
use Rattle.library_translation.specs.Cells.{items_written}

-- So many bytes of a library were taken: of each cell whose closing brace has 65,536 bytes or more of them behind it the outputs
-- of a whole translation hold all that is written for it behind the Verilog prelude, both models of an accepted cell whole, and
-- the lines of the report.
abbrev pub HoldsModels : List ℕ → ℕ → Written → Type 0
HoldsModels bytes taken text =
    (e : ℕ) → e + most_beyond ≤ taken
    → IsPart (joined (in_verilog prelude_text) (items_written no_progress (closed_items (take e bytes)))) text
