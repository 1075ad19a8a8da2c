use Rattle.std.proofs.Common.{◌≡◌, drop, false}
use Rattle.model_traces.specs.ModuleRun.{shaken}
use Rattle.module_runs.specs.Gates.{gate_zeros}
use Rattle.module_runs.specs.ModuleStands.{IsCurrent}
use Rattle.module_runs.proofs.module_run.ModuleState.toggle_for_each.Given as goal

-- the run so far and the reports of the rest lead where all reports lead
abbrev pub invariant-loop-i : goal.invariant-loop-i
invariant-loop-i l = record {
  stepped : shaken l.tables.model.now (drop l.i l.reports) l.self.run ≡ shaken l.tables.model.now l.reports l.initial.self.run;
  current : IsCurrent l.tables.model.now l.self;
  still :
      l.changed ≡ false → gate_zeros l.tables.index.now.gates.places l.self.kept
      ≡ gate_zeros l.tables.index.now.gates.places l.initial.self.kept;
  inputs : l.self.run.inputs ≡ l.initial.self.run.inputs;
}
