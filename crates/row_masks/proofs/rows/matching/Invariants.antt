use Rattle.std.proofs.Common.{◌≡◌, drop}
use Rattle.row_masks.specs.Masks.{matching}
use Rattle.row_masks.proofs.rows.matching.Given as goal

-- the columns that are left give what all do
abbrev pub invariant-loop-place : goal.invariant-loop-place
invariant-loop-place g l =
    matching l.left (drop l.place l.columns) (drop l.place (g.C.ColumnValues.olds l.values)) (drop l.place (g.C.ColumnValues.news l.values))
    ≡ matching l.mask l.columns (g.C.ColumnValues.olds l.values) (g.C.ColumnValues.news l.values)
