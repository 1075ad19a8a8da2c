-- The step of a group over points: its next state, given the inputs before and after a change and the state, all known.
use Rattle.std.specs.Prelude.{ℕ, Bool, not, ◌&&◌, List, Option, Some, None, if◌then◌else◌, ◌≤◌, ⊤}
use Rattle.trit_cubes.specs.declared.trits.Trit.{Trit}
use Rattle.trit_cubes.specs.declared.trits.Trit.TheVariants.{Zero, One, Unknown}
use Rattle.trit_cubes.specs.Filling.{trit_of}
use Rattle.bool_functions.specs.declared.tree.Node.{Node}
use Rattle.bool_functions.specs.Tree.{value_of, name_bound}
use Rattle.statetables.specs.Step.{table_step}
use Rattle.cell_machine.specs.declared.groups.Both.{Both}
use Rattle.cell_machine.specs.declared.groups.Both.TheVariants as both
use Rattle.cell_machine.specs.declared.groups.Clocked.{Clocked}
use Rattle.cell_machine.specs.declared.groups.Gated.{Gated}
use Rattle.cell_machine.specs.declared.groups.GroupKind.{GroupKind}
use Rattle.cell_machine.specs.declared.groups.GroupKind.TheVariants as kind
use Rattle.cell_machine.specs.declared.groups.StateGroup.{StateGroup}
use Rattle.cell_machine.specs.Machine.{Step}
use Rattle.cell_machine.specs.Values.{no_values, written, picked, is_on, with_state, IsBounded}

-- a value as a trit, X where there is none
abbrev pub trit_or_unknown : Option Bool → Trit
trit_or_unknown None = Unknown
trit_or_unknown (Some b) = trit_of b

-- what a variable with the value s becomes where clear and preset are both 1
-- (Liberty Reference Manual, clear_preset_var1 and clear_preset_var2)
abbrev pub both_value : Both → Bool → Trit
both_value both.Low s = Zero
both_value both.High s = One
both_value both.Keep s = trit_of s
both_value both.Unknown s = Unknown

-- The lines on clear and preset, which come before the clock or the enable (Liberty Reference Manual, ff and latch
-- groups): where both are 1, the value given for that; where clear is 1, 0; where preset is 1, 1; else what follows.
abbrev pub cleared_by : Bool → Bool → Both → Bool → Trit → Trit
cleared_by clear preset value s otherwise =
    (if clear && preset then both_value value s else (if clear then Zero else (if preset then One else otherwise)))

abbrev pub cleared_step : Option Node → Option Node → Both → List Bool → Bool → Trit → Trit
cleared_step clear preset value after s otherwise = cleared_by (is_on after clear) (is_on after preset) value s otherwise

-- What the clock of a flip-flop lets in: at a rise of clocked_on from 0 to 1 the value of next_state at the inputs
-- after the change and the state before it, else the state (Liberty Reference Manual, ff group).
abbrev pub clocked_value : Clocked → ℕ → List Bool → List Bool → Bool → Trit
clocked_value k name before after s =
    (if not (value_of before k.clocked_on) && value_of after k.clocked_on
    then trit_of (value_of (with_state name s after) k.next_state) else trit_of s)

-- The step of a flip-flop: the lines on clear and preset, then the clock.
abbrev pub clocked_step : Clocked → ℕ → List Bool → List Bool → Bool → Trit
clocked_step k name before after s =
    cleared_step k.clear k.preset k.both1 after s (clocked_value k name before after s)

-- What the enable of a latch lets in: where it is 1 the value of data_in at the inputs after the change and the state
-- before it, else the state (Liberty Reference Manual, latch group).
abbrev pub gated_value : Gated → ℕ → List Bool → Bool → Trit
gated_value k name after s =
    (if is_on after k.enable then trit_of (is_on (with_state name s after) k.data_in) else trit_of s)

-- The step of a latch: the lines on clear and preset, then the enable.
abbrev pub gated_step : Gated → ℕ → List Bool → Bool → Trit
gated_step k name after s = cleared_step k.clear k.preset k.both1 after s (gated_value k name after s)

-- The step of a group whose state has this name, over values of all names. In next_state and data_in the second
-- variable is the inverse of the state. A node takes the step of its table, X where that has none (Liberty Reference
-- Manual, statetable group).
abbrev pub kind_step : GroupKind → ℕ → List Bool → List Bool → Bool → Trit
kind_step (kind.Ff k) name before after s = clocked_step k name before after s
kind_step (kind.Latch k) name before after s = gated_step k name after s
kind_step (kind.Table table node inputs) name before after s =
    trit_or_unknown (table_step table node (picked before inputs) (picked after inputs) s)

-- The step of a group over points of its support.
abbrev pub group_step : ℕ → StateGroup → Step
group_step name group before after s =
    kind_step group.kind name (written no_values group.support before) (written no_values group.support after) s

-- The functions of a group name nothing from 96 on.
abbrev pub KindIsBounded : GroupKind → Type 0
KindIsBounded (kind.Ff k) =
    (name_bound k.next_state ≤ 96) × (name_bound k.clocked_on ≤ 96) × IsBounded k.clear × IsBounded k.preset
KindIsBounded (kind.Latch k) = IsBounded k.data_in × IsBounded k.enable × IsBounded k.clear × IsBounded k.preset
KindIsBounded (kind.Table table node inputs) = ⊤
