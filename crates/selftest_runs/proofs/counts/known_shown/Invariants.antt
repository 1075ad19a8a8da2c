use Rattle.std.proofs.Common.{◌≡◌, ◌+◌, ◌≤◌, List, drop}
use Rattle.cell_machine.specs.declared.changes.Change.{Change}
use Rattle.selftest_runs.specs.Counts.{known_values}
use Rattle.selftest_runs.proofs.CountLemmas.{known_among}
use Rattle.selftest_runs.proofs.counts.known_shown.Given as goal

abbrev pub invariant-loop-place : goal.invariant-loop-place
invariant-loop-place g l = record {
  few : l.known ≤ l.place;
  counted : (h : List Change) → g.S.CellSim.stands l.sim h
      → l.known + known_among (drop l.place ((g.S.CellSim.machine l.sim).line h).values) ≡ known_values ((g.S.CellSim.machine l.sim).line h);
}
