-- The value of an output, and of a condition.
use Rattle.std.specs.Prelude.{ℕ, ◌+◌, Bool, true, false, not, ◌&&◌, List, [], ◌∷◌, map, Option, slice_get, slice_index_or}
use Rattle.std.specs.Prelude.{if◌then◌else◌}
use Rattle.std.specs.Option.{option_map_or}
use Rattle.trit_cubes.specs.declared.trits.Trit.{Trit}
use Rattle.trit_cubes.specs.declared.trits.Trit.TheVariants.{Zero, One, Unknown}
use Rattle.trit_cubes.specs.Filling.{trit_of}
use Rattle.trit_cubes.specs.Resolution.{res}
use Rattle.bool_functions.specs.declared.tree.Node.{Node}
use Rattle.bool_functions.specs.Tree.{value_of}
use Rattle.cell_machine.specs.declared.groups.Both.{Both}
use Rattle.cell_machine.specs.declared.groups.GroupKind.{GroupKind}
use Rattle.cell_machine.specs.declared.groups.GroupKind.TheVariants as kind
use Rattle.cell_machine.specs.declared.groups.StateGroup.{StateGroup}
use Rattle.cell_machine.specs.declared.outputs.Source.{Source}
use Rattle.cell_machine.specs.declared.outputs.Source.TheVariants as source
use Rattle.cell_machine.specs.declared.outputs.OutputPin.{OutputPin}
use Rattle.cell_machine.specs.Names.{state_name, source_name}
use Rattle.cell_machine.specs.Values.{no_values, written, is_on}
use Rattle.cell_machine.specs.Step.{both_value}

-- The second variable of a group at a point with the state s: the value given for that where clear and preset are both
-- 1, else the inverse of the state (Liberty Reference Manual, clear_preset_var2). X stands for either value.
abbrev pub second_by : Option Node → Option Node → Both → List Bool → Bool → Trit
second_by clear preset value values s =
    (if is_on values clear && is_on values preset then both_value value s else trit_of (not s))

-- the same by the kind of the group; a node has no second variable, and its inverse stands for it
abbrev pub second_of : GroupKind → List Bool → Bool → Trit
second_of (kind.Ff k) values s = second_by k.clear k.preset k.both2 values s
second_of (kind.Latch k) values s = second_by k.clear k.preset k.both2 values s
second_of (kind.Table table node inputs) values s = trit_of (not s)

-- the second variable of group g, where the group is there
abbrev pub second_value : ℕ → List StateGroup → List Bool → ℕ → Trit
second_value pins groups values g =
    option_map_or
    (λ (group : StateGroup). second_of group.kind values (slice_index_or values (state_name pins g) false))
    (slice_get groups g) Unknown

-- the names of the second variables of the states in a support
abbrev pub second_names : ℕ → List Source → List ℕ
second_names pins [] = []
second_names pins (source.Pin p ∷ sources) = second_names pins sources
second_names pins (source.State g ∷ sources) = (state_name pins g + 1) ∷ second_names pins sources

-- the second variables of the states in a support, at values of the names
abbrev pub second_trits : ℕ → List StateGroup → List Bool → List Source → List Trit
second_trits pins groups values [] = []
second_trits pins groups values (source.Pin p ∷ sources) = second_trits pins groups values sources
second_trits pins groups values (source.State g ∷ sources) =
    second_value pins groups values g ∷ second_trits pins groups values sources

-- The value of an output's function where the values of its sources are written: that which it has for every choice of
-- the second variables that are X there, else X (this project's rule for unknowns).
abbrev pub chosen_value : ℕ → List StateGroup → OutputPin → List Bool → Trit
chosen_value pins groups output values =
    res (λ choice. trit_of (value_of (written values (second_names pins output.support) choice) output.function))
    (second_trits pins groups values output.support)

-- the value of an output at a point of its support
abbrev pub output_at : ℕ → List StateGroup → OutputPin → List Bool → Trit
output_at pins groups output point =
    chosen_value pins groups output (written no_values (map (source_name pins) output.support) point)

-- the value of a condition, over the pins in `names`, at a point of them
abbrev pub condition_at : List ℕ → Node → List Bool → Trit
condition_at names f point = trit_of (value_of (written no_values names point) f)

-- whether a trit is 1
abbrev pub is_one : Trit → Bool
is_one Zero = false
is_one One = true
is_one Unknown = false

-- whether a trit is 0
abbrev pub is_zero : Trit → Bool
is_zero Zero = true
is_zero One = false
is_zero Unknown = false
