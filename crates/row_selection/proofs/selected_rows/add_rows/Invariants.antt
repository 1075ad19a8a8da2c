use Rattle.std.proofs.Common.{◌≡◌, ◌++◌, drop}
use Rattle.row_selection.specs.Selection.{selected_of}
use Rattle.row_selection.proofs.selected_rows.add_rows.Given as goal

-- the rows so far, and those that are left
abbrev pub invariant-loop-row : goal.invariant-loop-row
invariant-loop-row l =
    l.rows ++ selected_of l.levels l.place l.old (drop l.row-index l.udp.rows) ≡ l.fn.rows ++ selected_of l.levels l.place l.old l.udp.rows
