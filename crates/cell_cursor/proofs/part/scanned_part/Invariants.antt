use Rattle.std.proofs.Common.{◌≡◌, false, ◌++◌, length}
use Rattle.cell_cursor.specs.Braces.{has_outer, kinds_of}
use Rattle.cell_cursor.proofs.part.scanned_part.Given as goal

abbrev pub invariant-loop-left : goal.invariant-loop-left
invariant-loop-left l = record {
  before : l.part.before ≡ l.before;
  bytes : l.part.bytes ++ l.left ≡ l.bytes;
  inner : has_outer l.place (kinds_of l.part.tokens) ≡ false;
}

abbrev pub decreases-loop-left : goal.decreases-loop-left
decreases-loop-left l = length l.left
