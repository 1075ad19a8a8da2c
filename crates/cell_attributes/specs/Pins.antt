-- The pins of a cell (Liberty Reference Manual, `pin` group and `direction`).
use Rattle.std.specs.Prelude.{ℕ, List, map, flat_map, codes, bytes_eq, Option, Some, None, unwrap_or, if◌then◌else◌}
use Rattle.liberty_groups.specs.declared.tree.Value.{Value}
use Rattle.liberty_groups.specs.declared.tree.Group.{Group}
use Rattle.cell_machine.specs.declared.pins.Direction.{Direction}
use Rattle.cell_machine.specs.declared.pins.Direction.TheVariants.{Input, Output, Internal}
use Rattle.cell_machine.specs.declared.pins.Pin.{Pin}
use Rattle.liberty_groups.specs.Attributes.{Attribute, attribute_of}
use Rattle.cell_attributes.specs.Groups.{pin_groups}

-- The words of `direction`. (Liberty Reference Manual, `direction`; `inout` is left out.)
abbrev pub direction_named : List ℕ → Option Direction
direction_named text =
    if bytes_eq text (codes "input") then Some Input
    else (if bytes_eq text (codes "output") then Some Output
    else (if bytes_eq text (codes "internal") then Some Internal else None))

abbrev pub direction_as : Option Attribute → Option Direction
direction_as None = None
direction_as (Some attribute) = direction_named attribute.text

-- The direction of the pins of a group: of several attributes the last counts.
abbrev pub direction_of : Group → Option Direction
direction_of pin = direction_as (attribute_of pin (codes "direction"))

-- One pin for each name of a pin group. A direction that is none of the three refuses the cell, so what stands here
-- in its place does not matter.
abbrev pub pin_as : Group → Value → Pin
pin_as group value = record { name = value.bytes; direction = unwrap_or (direction_of group) Input }

abbrev pub pins_in : Group → List Pin
pins_in group = map (pin_as group) group.arguments

-- The pins of a cell are numbered in their order in it.
abbrev pub pins_of : Group → List Pin
pins_of cell = flat_map pins_in (pin_groups cell)

-- For each pin of a cell the group that makes it.
abbrev pub owner_as : Group → Value → Group
owner_as group value = group

abbrev pub owners_in : Group → List Group
owners_in group = map (owner_as group) group.arguments

abbrev pub owners_of : Group → List Group
owners_of cell = flat_map owners_in (pin_groups cell)

-- the names of pins
abbrev pub pin_names : List Pin → List (List ℕ)
pin_names pins = map (λ (pin : Pin). pin.name) pins
