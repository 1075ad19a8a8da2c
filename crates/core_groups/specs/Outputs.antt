-- The three-state outputs of a cell (Liberty Reference Manual, `three_state`).
use Rattle.std.specs.Prelude.{◌≡◌, ℕ, ◌+◌, ◌<◌, ◌^◌, Bool, ◌&&◌, List, [], ◌∷◌, ◌++◌, length, map, flat_map, codes}
use Rattle.std.specs.Prelude.{Option, is_some, if◌then◌else◌}
use Rattle.liberty_groups.specs.declared.tree.Group.{Group}
use Rattle.liberty_groups.specs.Attributes.{Attribute, attribute_of}
use Rattle.cell_attributes.specs.Groups.{is_pin, pin_groups}
use Rattle.cell_attributes.specs.Pins.{direction_of, owners_in, owners_of}
use Rattle.cell_attributes.specs.Scans.{is_output_group}
use Rattle.core_groups.specs.declared.outputs.ThreeStateOutput.{ThreeStateOutput as HeldOutput}
use Rattle.core_groups.specs.declared.outputs.CellPins.{CellPins}

-- The statement that says when the pins of a group float: of several the last one. (Liberty Reference Manual, `three_state`;
-- this project's rule where it is written more than once.)
abbrev pub three_state_of : Group → Option Attribute
three_state_of pin = attribute_of pin (codes "three_state")

-- Whether a group makes three-state outputs: it is a pin group of outputs with such a statement.
unfoldable pub is_three_state : Group → Bool
is_three_state group = is_pin group && (is_output_group (direction_of group) && is_some (three_state_of group))

-- A three-state output: the number of its pin in the cell, and the group that makes the pin.
pub record ThreeStateOutput : Type 0 where
  pub pin : ℕ
  pub group : Group

-- What stands behind the reference that the program holds.
abbrev pub shown : HeldOutput → ThreeStateOutput
shown output = record { pin = output.pin; group = output.group.now }

-- The three-state outputs among pins that these groups make, where the first pin has this number.
abbrev pub outputs_from : ℕ → List Group → List ThreeStateOutput
outputs_from pin [] = []
outputs_from pin (group ∷ groups) =
    (if is_three_state group then record { pin = pin; group = group } ∷ [] else []) ++ outputs_from (pin + 1) groups

-- The three-state outputs of a cell, in the order of its pins.
abbrev pub three_state_outputs : Group → List ThreeStateOutput
three_state_outputs cell = outputs_from 0 (owners_of cell)

-- Whether the pins that these groups make can be numbered.
abbrev pub CanBeNumbered : List Group → Type 0
CanBeNumbered groups = length (flat_map owners_in groups) < 2 ^ 64

-- What stands behind the references that are held.
abbrev pub groups_shown : CellPins → List Group
groups_shown pins = map (λ group. group.now) pins.groups.items

abbrev pub outputs_shown : CellPins → List ThreeStateOutput
outputs_shown pins = map shown pins.outputs.items

-- What is held are the pin groups and the three-state outputs of a cell, whose pins can be numbered.
pub record ArePins (cell : Group) (pins : CellPins) : Type 0 where
  pub of_groups : groups_shown pins ≡ pin_groups cell
  pub of_outputs : outputs_shown pins ≡ three_state_outputs cell
  pub few : CanBeNumbered (pin_groups cell)
