use Rattle.std.proofs.Common.{◌<◌, length, arith}
use Rattle.stimulus.proofs.TraceTexts.{grown, reports_at}
use Rattle.stimulus.proofs.trace.push_reports.Goals as goal

pub loop-check-preserved : goal.loop-check-preserved
loop-check-preserved g c = λ h s.
    let below : c.loop-check.check < length ((g.S.TraceSim.machine c.args.sim.now).line h).reports =
    omega (arith, c.checks-check-end.ensures, (g.met.S.TraceSim.sized c.args.sim.now).reports h) in
    grown _ _ _ _ _ _ c.in_ok-push_report.ensures (reports_at _ _ _ below (c.reported.ensures h s)) (c.loop-check.invariant h s)
