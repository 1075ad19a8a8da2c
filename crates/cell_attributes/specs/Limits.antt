-- The limits of a cell (this project's rules).
use Rattle.std.specs.Prelude.{ℕ, ◌&&◌, ◌==◌, nat_lt, List, [], ◌∷◌, length, map, slice_get, if◌then◌else◌}
use Rattle.std.specs.Option.{option_map_or}
use Rattle.liberty_groups.specs.declared.tree.Group.{Group}
use Rattle.cell_machine.specs.declared.groups.StateGroup.{StateGroup}
use Rattle.cell_attributes.specs.declared.texts.Text.{Text}
use Rattle.cell_attributes.specs.declared.texts.Text.TheVariants as text
use Rattle.cell_attributes.specs.declared.state_readings.StateReading.{StateReading}
use Rattle.cell_attributes.specs.Pins.{direction_of}
use Rattle.cell_attributes.specs.States.{StateName, states_in}
use Rattle.cell_attributes.specs.Scans.{is_output_group}
use Rattle.cell_attributes.specs.Vocabulary.{Vocabulary}
use Rattle.cell_attributes.specs.Outputs.{pin_text}
use Rattle.cell_attributes.specs.Building.{function_of, sources_of}

-- The offset of the first that passes a limit of so many, where these are the offsets of all.
abbrev pub first_past : ℕ → List ℕ → List ℕ
first_past limit offsets = option_map_or (λ at. at ∷ []) (slice_get offsets limit) []

-- the offset of a group
abbrev pub place_of_group : Group → ℕ
place_of_group group = group.at

-- the offset of its group, for each state
abbrev pub place_of_state : Group → StateName → ℕ
place_of_state group state = group.at

abbrev pub state_at : Group → List ℕ
state_at group = map (place_of_state group) (states_in group)

-- A group that holds a state and names no input pin.
unfoldable pub no_support_in : StateReading → List ℕ
no_support_in r = if r.holds && length r.support == 0 then r.at ∷ [] else []

-- A group that holds a state and names more than 8 input pins.
unfoldable pub wide_support_in : StateReading → List ℕ
wide_support_in r = if r.holds && nat_lt 8 (length r.support) then r.at ∷ [] else []

-- The text of an output with more than 10 names in its support.
abbrev pub wide_function : ℕ → List StateGroup → List ℕ → Text → ℕ → List ℕ
wide_function pins groups to written at =
    if nat_lt 10 (length (sources_of pins groups (function_of to written))) then at ∷ [] else []

abbrev pub wide_text : ℕ → List StateGroup → List ℕ → Text → List ℕ
wide_text pins groups to (text.Reads f at) = wide_function pins groups to (text.Reads f at) at
wide_text pins groups to _ = []

unfoldable pub wide_output : Vocabulary → ℕ → List StateGroup → List ℕ → Group → List ℕ
wide_output v pins groups to owner =
    if is_output_group (direction_of owner) then wide_text pins groups to (pin_text v owner) else []
