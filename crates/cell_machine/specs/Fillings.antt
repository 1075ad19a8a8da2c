-- The forced value over values of all names: what the code computes, filling by filling.
use Rattle.std.specs.Prelude.{ℕ, Bool, true, false, List}
use Rattle.trit_cubes.specs.declared.trits.Trit.{Trit}
use Rattle.trit_cubes.specs.Resolution.{agreed}
use Rattle.cell_machine.specs.declared.groups.GroupKind.{GroupKind}
use Rattle.cell_machine.specs.Machine.{around}
use Rattle.cell_machine.specs.Values.{no_values, written, picked}
use Rattle.cell_machine.specs.Step.{kind_step}

-- for both states
abbrev pub both_states : GroupKind → ℕ → List Bool → List Bool → Trit
both_states kind name before after = agreed (kind_step kind name before after false) (kind_step kind name before after true)

-- for both states, and from the inputs after a change and each that differ from them in one place
abbrev pub forced_after : GroupKind → ℕ → List ℕ → List Bool → Trit
forced_after kind name support after =
    around (λ q. both_states kind name (written no_values support q) after) (picked after support)
