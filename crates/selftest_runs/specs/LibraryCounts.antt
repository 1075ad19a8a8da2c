-- What is counted of the cells of a library. This project's rules.
use Rattle.std.specs.Prelude.{◌≡◌, ℕ, List, [], ◌∷◌, Result, IfOk, IfSome, if◌then◌else◌}
use Rattle.text_io.specs.declared.slots.InSlot.TheVariants.{Library}
use Rattle.text_io.specs.Desk.{DeskState, took}
use Rattle.text_io.specs.declared.stop.Stop.{Stop}
use Rattle.three_state_cells.specs.DrivenCells.{DrivenData, driven_data_of, may_float}
use Rattle.library_reader.specs.declared.next.NextCell.{NextCell}
use Rattle.library_reader.specs.declared.next.NextCell.TheVariants as next
use Rattle.library_reader.specs.LibraryCells.{CellEntry, Accepted, Refused}
use Rattle.cell_cursor.specs.Ends.{items_within}
use Rattle.library_reader.specs.Endings.{library_limit}
use Rattle.library_reader.specs.Progress.{no_progress}
use Rattle.library_reader.specs.KeptCells.{kept_cells}
use Rattle.selftest_runs.specs.declared.counts.Counts.{Counts}
use Rattle.selftest_runs.specs.Counts.{no_counts, plus}
use Rattle.selftest_runs.specs.CellCounts.{cell_counts}

-- What is counted of a cell whose VITAL model has this name: of one whose outputs may float nothing, since its models are
-- drivers, of which none is damaged.
abbrev pub driven_counts : DrivenData → List ℕ → Counts
driven_counts cell entity = if may_float cell then no_counts else cell_counts cell.core entity

-- what is counted of the next cell as it was read
abbrev pub counted_next : NextCell → Counts
counted_next (next.Accepted cell entity) = driven_counts (driven_data_of cell) entity
counted_next (next.Refused refusal) = no_counts

-- of a cell that is refused nothing is counted
abbrev pub counted : CellEntry → Counts
counted (Accepted cell entity) = driven_counts cell entity
counted (Refused name refusal) = no_counts

-- What is counted of some cells: nothing of one that is refused, and nothing of one whose outputs may float.
abbrev pub all_counts : List CellEntry → Counts
all_counts [] = no_counts
all_counts (cell ∷ cells) = plus (counted cell) (all_counts cells)

-- What is counted of the cells of a library. Of cells of one name the first counts. How the library ends does not matter.
unfoldable pub library_counts : List ℕ → Counts
library_counts bytes = all_counts (kept_cells no_progress (items_within library_limit bytes))

-- After a call that counts the cells of the library that is bound: some bytes of it were taken, and nothing else changed. Where
-- the desk tells what is left of it, the answer is what is counted of these bytes.
pub record CountsCells (old new : DeskState) (result : Result Counts Stop) : Type 0 where
  pub taken : ℕ
  pub state : new ≡ took old Library taken
  pub counts : IfOk result (λ counts. IfSome (old.left Library) (λ bytes. counts ≡ library_counts bytes))
