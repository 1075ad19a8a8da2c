use Rattle.std.proofs.Common.{◌≡◌, map}
use Rattle.std.specs.List.{range_with_len}
use Rattle.row_masks.specs.Masks.{change_masks}
use Rattle.row_masks.proofs.rows.all_columns.Given as goal

abbrev pub invariant-loop-place : goal.invariant-loop-place
invariant-loop-place g l = l.all ≡ map (change_masks g.R.MaskedRow.passes l.rows) (range_with_len 0 l.place)
