use Rattle.std.proofs.Common.{◌≡◌, drop}
use Rattle.cell_machine.specs.Delay.{lesser}
use Rattle.model_traces.specs.PathDelays.{is_between, path_at}
use Rattle.run_parts.specs.LeastPath.{least_of}
use Rattle.module_runs.specs.QuietPorts.{IsKnown}
use Rattle.module_runs.proofs.delays.found_delay.Given as goal

-- the best so far and the least of the rest give the least of all
abbrev pub invariant-loop-i : goal.invariant-loop-i
invariant-loop-i l = record {
  least :
      lesser l.best
      (least_of (is_between l.values.tables.model.now.ports l.change.input l.change.port) (path_at l.values.tables.model.now l.values.inputs.now l.values.states.now)
      l.change.from l.change.to (drop l.i l.paths))
      ≡ least_of (is_between l.values.tables.model.now.ports l.change.input l.change.port) (path_at l.values.tables.model.now l.values.inputs.now l.values.states.now)
      l.change.from l.change.to l.values.tables.model.now.paths;
  known : IsKnown l.values.tables.model.now l.values.inputs.now l.values.states.now l.quiet;
}
