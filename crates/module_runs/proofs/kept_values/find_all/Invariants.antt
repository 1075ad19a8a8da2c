use Rattle.std.proofs.Common.{◌≡◌, take, length, map}
use Rattle.module_runs.specs.KeptValues.{kept_value}
use Rattle.module_runs.proofs.kept_values.find_all.Given as goal

-- the values of the instances so far
abbrev pub invariant-loop-i : goal.invariant-loop-i
invariant-loop-i l = record {
  front :
      l.kept ≡ map (kept_value l.values.tables.model.now l.values.inputs.now l.values.states.now) (take l.i l.values.tables.model.now.instances);
  room : length l.room ≡ length l.initial.room;
}
