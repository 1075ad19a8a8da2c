use Rattle.std.proofs.Common.{◌≡◌, ◌+◌, drop}
use Rattle.stimulus.specs.DriveLines.{lines_along}
use Rattle.stimulus.specs.Differences.{first_difference}
use Rattle.stimulus.proofs.Compared.{Alike}
use Rattle.stimulus.proofs.differences.first_difference.Given as goal

abbrev pub invariant-loop-change : goal.invariant-loop-change
invariant-loop-change g l = record {
  alike : Alike (g.A.TraceSim.stands l.left) (g.B.TraceSim.stands l.right) (g.A.TraceSim.machine l.fn.left).line (g.B.TraceSim.machine l.fn.right).line (g.A.TraceSim.machine l.fn.left).inputs l.number (drop l.change-index l.changes) (first_difference (lines_along (g.A.TraceSim.machine l.fn.left).line l.changes) (lines_along (g.B.TraceSim.machine l.fn.right).line l.changes));
  number : l.number ≡ l.change-index + 1;
  left : g.A.TraceSim.machine l.left ≡ g.A.TraceSim.machine l.fn.left;
  right : g.B.TraceSim.machine l.right ≡ g.B.TraceSim.machine l.fn.right;
}
