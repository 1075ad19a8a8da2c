-- The refusals that are seen without the names of a cell: the first six but for duplicates, and outputs without function.
use Rattle.std.specs.Prelude.{ℕ, Bool, true, false, ◌&&◌, List, [], ◌∷◌, ◌++◌, flat_map, codes, Option, Some, None, is_none}
use Rattle.std.specs.Prelude.{if◌then◌else◌}
use Rattle.liberty_groups.specs.declared.tree.Group.{Group}
use Rattle.cell_machine.specs.declared.pins.Direction.{Direction}
use Rattle.cell_machine.specs.declared.pins.Direction.TheVariants as direction
use Rattle.liberty_groups.specs.Attributes.{Attribute, attribute_of}
use Rattle.cell_attributes.specs.Groups.{is_bank, inner_groups, pin_groups, state_groups, offsets_of}
use Rattle.cell_attributes.specs.Pins.{direction_of}
use Rattle.cell_attributes.specs.States.{is_table, first_both, second_both}

-- The offset of what is wrong: that of the attribute's statement, or of the group that lacks it.
abbrev pub place_or : ℕ → Option Attribute → ℕ
place_or at None = at
place_or at (Some attribute) = attribute.at

abbrev pub place_unless : {A : Type 0} → ℕ → Option A → List ℕ
place_unless at None = at ∷ []
place_unless at (Some x) = []

-- A pin's direction is absent, or none of input, output and internal.
unfoldable pub direction_in : Group → List ℕ
direction_in pin = place_unless (place_or pin.at (attribute_of pin (codes "direction"))) (direction_of pin)

abbrev pub directions : Group → List ℕ
directions cell = flat_map direction_in (pin_groups cell)

-- A pin has `three_state`.
unfoldable pub three_state_in : Group → List ℕ
three_state_in pin = offsets_of (codes "three_state") pin

abbrev pub three_states : Group → List ℕ
three_states cell = flat_map three_state_in (pin_groups cell)

-- The cell has a `bus`, `bundle`, `ff_bank` or `latch_bank` group.
unfoldable pub bank_in : Group → List ℕ
bank_in group = if is_bank group then group.at ∷ [] else []

abbrev pub banks : Group → List ℕ
banks cell = flat_map bank_in (inner_groups cell.items)

-- `clocked_on_also`, `enable_also` or `input_map` stands in a state group or pin.
unfoldable pub left_out_in : Group → List ℕ
left_out_in group =
    offsets_of (codes "clocked_on_also") group
    ++ (offsets_of (codes "enable_also") group ++ offsets_of (codes "input_map") group)

abbrev pub left_out_states : Group → List ℕ
left_out_states cell = flat_map left_out_in (pin_groups cell) ++ flat_map left_out_in (state_groups cell)

-- The value of a `clear_preset` attribute is none of those that it may have, `L`, `H`, `X` and of the first variable
-- `N`.
unfoldable pub first_both_in : Group → List ℕ
first_both_in group = place_unless (place_or group.at (attribute_of group (codes "clear_preset_var1"))) (first_both group)

unfoldable pub second_both_in : Group → List ℕ
second_both_in group = place_unless (place_or group.at (attribute_of group (codes "clear_preset_var2"))) (second_both group)

unfoldable pub clear_preset_in : Group → List ℕ
clear_preset_in group = if is_table group then [] else first_both_in group ++ second_both_in group

abbrev pub clear_presets : Group → List ℕ
clear_presets cell = flat_map clear_preset_in (state_groups cell)

abbrev pub is_output_group : Option Direction → Bool
is_output_group None = false
is_output_group (Some direction.Input) = false
is_output_group (Some direction.Output) = true
is_output_group (Some direction.Internal) = false

abbrev pub is_missing : List ℕ → Group → Bool
is_missing name group = is_none (attribute_of group name)

-- An output pin has none of `function`, `state_function` and `internal_node`.
unfoldable pub no_function_in : Group → List ℕ
no_function_in pin =
    if is_output_group (direction_of pin)
    && (is_missing (codes "function") pin && (is_missing (codes "state_function") pin && is_missing (codes "internal_node") pin))
    then pin.at ∷ [] else []

abbrev pub no_functions : Group → List ℕ
no_functions cell = flat_map no_function_in (pin_groups cell)
