use Rattle.std.proofs.Common.{◌≡◌, drop, length, false}
use Rattle.trit_cubes.specs.declared.trits.Trit.TheVariants.{Unknown}
use Rattle.module_runs.specs.Gates.{gate_zeros}
use Rattle.module_runs.specs.KeptValues.{kept_value}
use Rattle.run_parts.proofs.PlaceLemmas.{stepped}
use Rattle.module_runs.proofs.kept_values.find_anew.Given as goal

-- the places that are left take the values to where all places take them
abbrev pub invariant-loop-j : goal.invariant-loop-j
invariant-loop-j l = record {
  rest :
      stepped (λ x s. kept_value l.values.tables.model.now l.values.inputs.now l.values.states.now x) Unknown l.values.tables.model.now.instances
      (drop l.j l.places) l.kept
      ≡ stepped (λ x s. kept_value l.values.tables.model.now l.values.inputs.now l.values.states.now x) Unknown l.values.tables.model.now.instances
      l.places l.initial.kept;
  still : l.changed ≡ false → gate_zeros l.values.tables.index.now.gates.places l.kept ≡ gate_zeros l.values.tables.index.now.gates.places l.initial.kept;
  len : length l.kept ≡ length l.initial.kept;
  room : length l.room ≡ length l.initial.room;
}
