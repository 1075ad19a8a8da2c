-- What is counted of the cells of a library, one cell after another.
use Rattle.std.proofs.Common.{◌≡◌, ℕ, ◌+◌, List, [], ◌∷◌, ◌++◌, Some, None, Ok, sym, ap, ◌∙◌, arith}
use Rattle.text_io.specs.Desk.{DeskState}
use Rattle.text_io.specs.declared.slots.InSlot.TheVariants.{Library}
use Rattle.liberty_groups.specs.declared.tree.Group.{Group}
use Rattle.cell_reader.specs.declared.refusal.Refusal.{Refusal}
use Rattle.three_state_cells.specs.declared.driven_cell.DrivenCell.{DrivenCell}
use Rattle.three_state_cells.specs.DrivenCells.{driven_data_of}
use Rattle.library_reader.specs.LibraryCells.{CellEntry}
use Rattle.library_reader.specs.declared.ending.Ending.{Ending}
use Rattle.library_reader.specs.declared.progress.Progress.{Progress}
use Rattle.library_reader.specs.Endings.{library_limit}
use Rattle.library_reader.specs.Folds.{FoldsCells}
use Rattle.library_reader.specs.KeptCells.{kept_by, next_entry}
use Rattle.library_reader.specs.declared.next.NextCell.{NextCell}
use Rattle.library_reader.specs.declared.next.NextCell.TheVariants as next
use Rattle.library_reader.specs.NextCells.{IsAcceptedNext, IsNext}
use Rattle.library_reader.specs.Progress.{next_refusal}
use Rattle.library_reader.proofs.Claims.{IfSome-each}
use Rattle.selftest_runs.specs.declared.counts.Counts.{Counts}
use Rattle.selftest_runs.specs.Counts.{no_counts, plus}
use Rattle.selftest_runs.specs.LibraryCounts.{driven_counts, counted_next, counted, all_counts, library_counts, CountsCells}

-- Sums of counts.

plus-none : (a : Counts) → plus a no_counts ≡ a
plus-none a =
    let known : a.known + 0 ≡ a.known = omega arith in
    let verilog : a.verilog + 0 ≡ a.verilog = omega arith in
    let vital : a.vital + 0 ≡ a.vital = omega arith in
    λ i. record { known = known i; verilog = verilog i; vital = vital i }

none-plus : (a : Counts) → plus no_counts a ≡ a
none-plus a =
    let known : 0 + a.known ≡ a.known = omega arith in
    let verilog : 0 + a.verilog ≡ a.verilog = omega arith in
    let vital : 0 + a.vital ≡ a.vital = omega arith in
    λ i. record { known = known i; verilog = verilog i; vital = vital i }

plus-plus : (a b c : Counts) → plus (plus a b) c ≡ plus a (plus b c)
plus-plus a b c =
    let known : (a.known + b.known) + c.known ≡ a.known + (b.known + c.known) = omega arith in
    let verilog : (a.verilog + b.verilog) + c.verilog ≡ a.verilog + (b.verilog + c.verilog) = omega arith in
    let vital : (a.vital + b.vital) + c.vital ≡ a.vital + (b.vital + c.vital) = omega arith in
    λ i. record { known = known i; verilog = verilog i; vital = vital i }

-- one cell more
all_counts-more : (cells : List CellEntry) (x : CellEntry) → all_counts (cells ++ x ∷ []) ≡ plus (all_counts cells) (counted x)
all_counts-more [] x = plus-none (counted x) ∙ sym (none-plus (counted x))
all_counts-more (y ∷ cells) x = ap (plus (counted y)) (all_counts-more cells x)
    ∙ sym (plus-plus (counted y) (all_counts cells) (counted x))

-- The next cell.

-- what is counted of it
accepted_counted : (p : Progress) (group : Group) (cell : DrivenCell) (entity : List ℕ) (before more after : Counts)
    (cells : List CellEntry)
    → IsAcceptedNext p group cell entity → before ≡ all_counts cells → more ≡ driven_counts (driven_data_of cell) entity
    → after ≡ plus before more
    → after ≡ all_counts (cells ++ next_entry p group ∷ [])
accepted_counted p group cell entity before more after cells h so_far here sum =
    let entry : next_entry p group ≡ kept_by p group None = ap (kept_by p group) h.unrefused in
    let this : more ≡ counted (next_entry p group) =
    here ∙ (λ i. driven_counts (h.same_cell i) (h.same_entity i)) ∙ sym (ap counted entry) in
    sum ∙ (λ i. plus (so_far i) (this i)) ∙ sym (all_counts-more cells (next_entry p group))

refused_counted : (p : Progress) (group : Group) (refusal : Refusal) (counts : Counts) (cells : List CellEntry)
    → next_refusal p group ≡ Some refusal → counts ≡ all_counts cells → counts ≡ all_counts (cells ++ next_entry p group ∷ [])
refused_counted p group refusal counts cells h so_far =
    let none : counted (next_entry p group) ≡ no_counts = ap (λ why. counted (kept_by p group why)) h in
    so_far ∙ sym (plus-none (all_counts cells)) ∙ ap (plus (all_counts cells)) (sym none)
    ∙ sym (all_counts-more cells (next_entry p group))

pub next_counted : (p : Progress) (group : Group) (this : NextCell) (before more after : Counts) (cells : List CellEntry)
    → IsNext p group this → before ≡ all_counts cells → more ≡ counted_next this → after ≡ plus before more
    → after ≡ all_counts (cells ++ next_entry p group ∷ [])
next_counted p group (next.Accepted cell entity) before more after cells h so_far here sum =
    accepted_counted p group cell entity before more after cells h so_far here sum
next_counted p group (next.Refused refusal) before more after cells h so_far here sum =
    refused_counted p group refusal after cells h (sum ∙ ap (plus before) here ∙ plus-none before ∙ so_far)

-- What is counted of all cells of a library.

-- this was counted of the cells
abbrev IsCounted : Counts → List CellEntry → Type 0
IsCounted counts cells = counts ≡ all_counts cells

pub counts_all : (old new : DeskState) (counts : Counts) (e : Ending)
    → FoldsCells (IsCounted counts) library_limit old new (Ok e) → CountsCells old new (Ok counts)
unfolding library_counts
counts_all old new counts e f = record {
  taken = f.taken;
  state = f.state;
  counts = IfSome-each (old.left Library) (λ bytes. counts ≡ library_counts bytes) (λ bytes left.
      let told = rw left at f.cells.told in f.cells.made ∙ ap all_counts told.0);
}
