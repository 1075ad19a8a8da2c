-- The states of a module: those of its primitives with a state, in the order of their instances.
use Rattle.std.specs.Prelude.{Bool, List, [], ◌∷◌, filter, if◌then◌else◌}
use Rattle.trit_cubes.specs.declared.trits.Trit.{Trit}
use Rattle.specify_blocks.specs.declared.model.Instance.{Instance}
use Rattle.specify_blocks.specs.declared.model.VModule.{VModule}
use Rattle.specify_blocks.specs.Nets.{has_state}
use Rattle.model_traces.specs.declared.module_run.ModuleRun.{ModuleRun}

-- the entries of the second list at whose places the first list passes a test
abbrev pub picked : {X S : Type 0} → (X → Bool) → List X → List S → List S
picked test [] ss = []
picked test (x ∷ xs) [] = []
picked test (x ∷ xs) (s ∷ ss) = (if test x then s ∷ picked test xs ss else picked test xs ss)

-- the instances of primitives with a state, in their order
abbrev pub sequential_instances : VModule → List Instance
sequential_instances m = filter (has_state m.udps) m.instances

-- of a state for each instance, those of the instances of primitives with a state
abbrev pub states_among : VModule → List Trit → List Trit
states_among m states = picked (has_state m.udps) m.instances states

-- the states that a run holds
abbrev pub sequential_states : VModule → ModuleRun → List Trit
sequential_states m r = states_among m r.states
