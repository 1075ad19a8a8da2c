use Rattle.std.proofs.Common.{◌≡◌, take, length, map}
use Rattle.model_traces.specs.ProcessValues.{truth_value}
use Rattle.process_runs.proofs.kept_conditions.first_conditions.Given as goal

-- the values of the conditions so far
abbrev pub invariant-loop-i : goal.invariant-loop-i
invariant-loop-i l = record {
  front : l.values ≡ map (truth_value l.tables.model.now.ports l.inputs) (take l.i l.tables.model.now.conditions);
  room : length l.room ≡ length l.initial.room;
}
