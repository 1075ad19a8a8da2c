use Rattle.std.proofs.Common.{◌≡◌, ◌≤◌, length, drop}
use Rattle.row_masks.specs.Masks.{row_mask}
use Rattle.row_masks.proofs.value_masks.row_mask.Given as goal

-- the mask of the rows behind those that are left
abbrev pub invariant-loop-left : goal.invariant-loop-left
invariant-loop-left g l = record {
  within : l.left ≤ length l.rows;
  mask : l.mask ≡ row_mask (λ row. g.R.MaskedRow.passes row l.test) (drop l.left l.rows);
}

abbrev pub decreases-loop-left : goal.decreases-loop-left
decreases-loop-left g l = l.left
