-- The outputs of a cell with buses and bundles, as its statements stand (Liberty Reference Manual, `bus`, `bundle` and `pin`
-- groups, `function`, `state_function` and `internal_node`).
use Rattle.std.specs.Prelude.{ℕ, ◌+◌, List, [], ◌∷◌, ◌++◌, map, flat_map, codes, Option, Some, None, if◌then◌else◌}
use Rattle.liberty_groups.specs.declared.tree.Value.{Value}
use Rattle.liberty_groups.specs.declared.tree.Item.{Item, out-Item}
use Rattle.liberty_groups.specs.declared.tree.Item.TheOpen.{Item-F}
use Rattle.liberty_groups.specs.declared.tree.Item.TheOpen as layer
use Rattle.liberty_groups.specs.declared.tree.Group.{Group, roll-Group}
use Rattle.liberty_groups.specs.Attributes.{Attribute, attribute_of}
use Rattle.bool_functions.specs.declared.tree.Node.{Node}
use Rattle.bool_functions.specs.declared.tree.Node.TheVariants as tree
use Rattle.cell_machine.specs.declared.groups.StateGroup.{StateGroup}
use Rattle.cell_machine.specs.declared.outputs.OutputPin.{OutputPin}
use Rattle.cell_attributes.specs.Groups.{is_pin}
use Rattle.cell_attributes.specs.Pins.{direction_of}
use Rattle.cell_attributes.specs.Scans.{is_output_group}
use Rattle.cell_attributes.specs.Vocabulary.{Vocabulary}
use Rattle.cell_attributes.specs.Outputs.{pin_text}
use Rattle.cell_attributes.specs.Building.{function_of, sources_of}
use Rattle.bus_texts.specs.declared.bus_types.BusType.{BusType}
use Rattle.bus_texts.specs.declared.vectors.Vector.{Vector}
use Rattle.bus_texts.specs.Vectors.{pin_vectors}
use Rattle.bank_cells.specs.Members.{member_items}
use Rattle.bank_cells.specs.Refusals.{is_pins, along}
use Rattle.bank_cells.specs.Expanded.{text_value}
use Rattle.bank_machines.specs.BankTexts.{CellNames, number_in_cell, function_at, function_or}

-- A pin of the expanded cell: its statements as they stand, and where it is a bit of a bus or bundle its position there.
pub record WrittenPin : Type 0 where
  pub group : Group
  pub position : Option ℕ

-- The pin of a bus or bundle at a position: its statements are those of the bus or bundle, and behind them its own.
abbrev pub member_group : Group → Vector → ℕ → List ℕ → Group
member_group group vector at member =
    roll-Group (record {
      name = codes "pin";
      arguments = text_value member;
      items = member_items group vector at member;
      at = group.at;
    })

abbrev pub pin_of_member : Group → Vector → ℕ → List ℕ → List WrittenPin
pin_of_member group vector at member = record { group = member_group group vector at member; position = Some at } ∷ []

abbrev pub pins_of_vector : Group → Vector → List WrittenPin
pins_of_vector group vector = along (pin_of_member group vector) 0 vector.members

-- a scalar pin for each name of a pin group
abbrev pub scalar_pin : Group → Value → WrittenPin
scalar_pin group name = record { group = group; position = None }

-- The pins that a statement of the cell makes.
abbrev pub pins_of_group : List BusType → Group → List WrittenPin
pins_of_group types group =
    if is_pins group then flat_map (pins_of_vector group) (pin_vectors types group)
    else (if is_pin group then map (scalar_pin group) group.arguments else [])

abbrev pub pins_as : List BusType → Item-F Item Group → List WrittenPin
pins_as types (layer.Simple name value at) = []
pins_as types (layer.Complex name arguments at) = []
pins_as types (layer.Inner group) = pins_of_group types group

abbrev pub pins_made : List BusType → Item → List WrittenPin
pins_made types item = pins_as types (out-Item item)

-- The function of a bit of a bus or bundle: that of its `state_function` where it has one, else the node that its `internal_node`
-- names, else that of its `function`, as these texts are read at its position.
abbrev pub driven_by : CellNames → ℕ → Option Attribute → Option Attribute → Option Attribute → Node
driven_by cell at (Some state) internal function = function_at cell at state.text
driven_by cell at None (Some node) function = tree.Name (number_in_cell cell node.text)
driven_by cell at None None function = function_or cell at function

-- Scalar pins have the functions that they have in every cell.
abbrev pub function_by : CellNames → Vocabulary → Group → Option ℕ → Node
function_by cell v group None = function_of cell.numbers (pin_text v group)
function_by cell v group (Some at) =
    driven_by cell at (attribute_of group (codes "state_function")) (attribute_of group (codes "internal_node"))
    (attribute_of group (codes "function"))

-- An output, where the cell has so many pins and these states: its inputs are the pins and states for which the names in its
-- function stand.
abbrev pub output_by : ℕ → List StateGroup → ℕ → Node → OutputPin
output_by pins states pin f = record { pin = pin; function = f; support = sources_of pins states f }

abbrev pub output_of : CellNames → Vocabulary → ℕ → List StateGroup → ℕ → WrittenPin → List OutputPin
output_of cell v pins states number pin =
    if is_output_group (direction_of pin.group) then output_by pins states number (function_by cell v pin.group pin.position) ∷ []
    else []

-- The outputs among pins, of which the first has this number.
abbrev pub outputs_among : CellNames → Vocabulary → ℕ → List StateGroup → ℕ → List WrittenPin → List OutputPin
outputs_among cell v pins states number [] = []
outputs_among cell v pins states number (pin ∷ more) =
    output_of cell v pins states number pin ++ outputs_among cell v pins states (number + 1) more
