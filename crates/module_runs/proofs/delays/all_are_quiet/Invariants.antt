use Rattle.std.proofs.Common.{◌≡◌, drop}
use Rattle.std.specs.List.{list_all}
use Rattle.model_traces.specs.PathDelays.{is_quiet}
use Rattle.module_runs.proofs.delays.all_are_quiet.Given as goal

-- the rest is quiet exactly where all are
abbrev pub invariant-loop-i : goal.invariant-loop-i
invariant-loop-i l =
    list_all (is_quiet l.values.tables.model.now l.values.inputs.now l.values.states.now l.path) (drop l.i l.paths)
    ≡ list_all (is_quiet l.values.tables.model.now l.values.inputs.now l.values.states.now l.path) l.values.tables.model.now.paths
