use Rattle.std.proofs.Common.{◌≡◌, ◌++◌, drop, length}
use Rattle.std.specs.Prelude.{slice_set}
use Rattle.row_selection.specs.Selection.{any}
use Rattle.row_selection.proofs.selected_rows.settled.Given as goal

-- the entries so far, and those that are left
abbrev pub invariant-loop-i : goal.invariant-loop-i
invariant-loop-i l = record {
  whole : l.all ++ drop l.i (slice_set l.entries l.place any) ≡ slice_set l.entries l.place any;
  len : length l.all ≡ l.i;
}
