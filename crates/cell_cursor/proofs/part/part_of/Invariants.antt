use Rattle.std.proofs.Common.{◌≡◌, ◌++◌, length}
use Rattle.cell_cursor.specs.Part.{all_scanned}
use Rattle.cell_cursor.proofs.part.part_of.Given as goal

abbrev pub invariant-loop-left : goal.invariant-loop-left
invariant-loop-left l = record {
  before : l.part.before ≡ l.before;
  all : l.part ≡ all_scanned l.part.before l.part.bytes;
  bytes : l.part.bytes ++ l.left ≡ l.bytes;
}

abbrev pub decreases-loop-left : goal.decreases-loop-left
decreases-loop-left l = length l.left
