use Rattle.std.proofs.Common.{◌≡◌, drop}
use Rattle.row_selection.specs.Selection.{chosen}
use Rattle.row_selection.proofs.selected_rows.chosen.Given as goal

-- the rows that are left decide as all do
abbrev pub invariant-loop-row : goal.invariant-loop-row
invariant-loop-row l =
    chosen l.word l.old l.new l.state (drop l.row-index l.rows) ≡ chosen l.word l.old l.new l.state l.rows
