use Rattle.std.proofs.Common.{◌≡◌, drop}
use Rattle.model_traces.specs.GatedPaths.{all_zero}
use Rattle.process_runs.proofs.process_delays.all_zero.Given as goal

-- the rest is 0 exactly where all are
abbrev pub invariant-loop-i : goal.invariant-loop-i
invariant-loop-i l =
    all_zero l.values.tables.model.now l.values.inputs.now (drop l.i l.conditions)
    ≡ all_zero l.values.tables.model.now l.values.inputs.now l.conditions
