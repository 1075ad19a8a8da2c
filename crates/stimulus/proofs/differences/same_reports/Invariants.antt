use Rattle.stimulus.specs.Differences.{same_reports}
use Rattle.stimulus.proofs.Compared.{RestDecides}
use Rattle.stimulus.proofs.differences.same_reports.Given as goal

abbrev pub invariant-loop-check : goal.invariant-loop-check
invariant-loop-check g l =
    RestDecides same_reports (g.A.TraceSim.stands l.left) (g.B.TraceSim.stands l.right) (λ h. ((g.A.TraceSim.machine l.left).line h).reports)
    (λ k. ((g.B.TraceSim.machine l.right).line k).reports) l.check
