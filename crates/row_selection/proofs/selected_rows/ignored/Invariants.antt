use Rattle.std.proofs.Common.{◌≡◌, drop}
use Rattle.row_selection.specs.Selection.{ignored}
use Rattle.row_selection.proofs.selected_rows.ignored.Given as goal

-- the rows that are left ask for them where all do
abbrev pub invariant-loop-row : goal.invariant-loop-row
invariant-loop-row l =
    ignored l.place l.old l.number l.order (drop l.row-index l.udp.rows) ≡ ignored l.place l.old l.number l.order l.udp.rows
