use Rattle.std.proofs.Common.{◌≡◌, false, drop, length}
use Rattle.trit_cubes.specs.declared.trits.Trit.TheVariants.{Zero}
use Rattle.model_traces.specs.Primitives.{next_state}
use Rattle.run_parts.proofs.PlaceLemmas.{stepped}
use Rattle.module_runs.proofs.primitives.step_states.Given as goal

-- the steps of the instances that are left take the states to where the steps of all that are fed take them
abbrev pub invariant-loop-j : goal.invariant-loop-j
invariant-loop-j l = record {
  rest :
      stepped (next_state l.tables.model.now l.inputs l.notifier l.turn) Zero l.tables.model.now.instances (drop l.j l.places) l.states
      ≡ stepped (next_state l.tables.model.now l.inputs l.notifier l.turn) Zero l.tables.model.now.instances l.places l.initial.states;
  still : l.changed ≡ false → l.states ≡ l.initial.states;
  len : length l.states ≡ length l.initial.states;
  room : length l.room ≡ length l.initial.room;
}
