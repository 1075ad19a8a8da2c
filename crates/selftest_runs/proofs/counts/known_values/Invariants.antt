use Rattle.std.proofs.Common.{◌≡◌, drop}
use Rattle.cell_machine.specs.Lines.{trace}
use Rattle.selftest_runs.specs.Counts.{known_in}
use Rattle.selftest_runs.proofs.CountLemmas.{Counting}
use Rattle.selftest_runs.proofs.counts.known_values.Given as goal

abbrev pub invariant-loop-change : goal.invariant-loop-change
invariant-loop-change g l = record {
  going : Counting (g.S.CellSim.stands l.sim) (g.S.CellSim.machine l.fn.sim).line (g.S.CellSim.machine l.fn.sim).inputs l.known (drop l.change-index l.changes) (known_in (trace (g.S.CellSim.machine l.fn.sim).line l.changes));
  machine : g.S.CellSim.machine l.sim ≡ g.S.CellSim.machine l.fn.sim;
}
