use Rattle.std.proofs.Common.{◌≡◌, drop}
use Rattle.stimulus.specs.DriveLines.{lines_along}
use Rattle.stimulus.specs.TraceText.{trace_text}
use Rattle.stimulus.proofs.Runs.{Going, one_shown}
use Rattle.stimulus.proofs.printing.write_trace.Given as goal

abbrev pub invariant-loop-change : goal.invariant-loop-change
invariant-loop-change g l = record {
  going : Going (g.S.TraceSim.stands l.sim) (one_shown l.tag l.ports (g.S.TraceSim.machine l.fn.sim).line) (g.S.TraceSim.machine l.fn.sim).inputs (g.D.Desk.state l.fn.desk) (g.D.Desk.state l.desk) l.waiting (drop l.change-index l.changes) (trace_text l.tag l.ports l.changes (lines_along (g.S.TraceSim.machine l.fn.sim).line l.changes));
  machine : g.S.TraceSim.machine l.sim ≡ g.S.TraceSim.machine l.fn.sim;
  kept : g.D.Desk.faults l.desk ≡ g.D.Desk.faults l.fn.desk;
}
