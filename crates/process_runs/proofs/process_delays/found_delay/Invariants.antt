use Rattle.std.proofs.Common.{◌≡◌, drop}
use Rattle.cell_machine.specs.Delay.{lesser}
use Rattle.model_traces.specs.GatedPaths.{begins_at, path_at}
use Rattle.run_parts.specs.LeastPath.{least_of}
use Rattle.process_runs.proofs.process_delays.found_delay.Given as goal

-- the best so far and the least of the rest give the least of all
abbrev pub invariant-loop-i : goal.invariant-loop-i
invariant-loop-i l =
    lesser l.best
    (least_of (begins_at l.values.tables.model.now.ports l.change.input) (path_at l.values.tables.model.now l.values.inputs.now)
    l.change.from l.change.to (drop l.i l.output.paths))
    ≡ least_of (begins_at l.values.tables.model.now.ports l.change.input) (path_at l.values.tables.model.now l.values.inputs.now)
    l.change.from l.change.to l.output.paths
