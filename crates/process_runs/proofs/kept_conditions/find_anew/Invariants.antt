use Rattle.std.proofs.Common.{◌≡◌, drop, length, false}
use Rattle.trit_cubes.specs.declared.trits.Trit.TheVariants.{Unknown}
use Rattle.model_traces.specs.ProcessValues.{truth_value}
use Rattle.run_parts.specs.KeptDelays.{zeros}
use Rattle.run_parts.proofs.PlaceLemmas.{stepped}
use Rattle.process_runs.proofs.kept_conditions.find_anew.Given as goal

-- the places that are left take the values to where all places take them
abbrev pub invariant-loop-j : goal.invariant-loop-j
invariant-loop-j l = record {
  rest :
      stepped (λ x s. truth_value l.tables.model.now.ports l.inputs x) Unknown l.tables.model.now.conditions (drop l.j l.places) l.values
      ≡ stepped (λ x s. truth_value l.tables.model.now.ports l.inputs x) Unknown l.tables.model.now.conditions l.places l.initial.values;
  still : l.changed ≡ false → zeros l.values ≡ zeros l.initial.values;
  len : length l.values ≡ length l.initial.values;
  room : length l.room ≡ length l.initial.room;
}
