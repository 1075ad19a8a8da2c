-- The texts of the pins of a cell that it drives (Liberty Reference Manual, `function`, `state_function` and
-- `internal_node`).
use Rattle.std.specs.Prelude.{codes, Option, Some, None}
use Rattle.liberty_groups.specs.declared.tree.Group.{Group}
use Rattle.cell_machine.specs.declared.pins.Direction.{Direction}
use Rattle.cell_machine.specs.declared.pins.Direction.TheVariants as direction
use Rattle.liberty_groups.specs.Attributes.{Attribute, attribute_of}
use Rattle.cell_attributes.specs.declared.texts.Scope.TheVariants as scope
use Rattle.cell_attributes.specs.declared.texts.Text.{Text}
use Rattle.cell_attributes.specs.declared.texts.Text.TheVariants as text
use Rattle.cell_attributes.specs.Pins.{direction_of}
use Rattle.cell_attributes.specs.Vocabulary.{Vocabulary}
use Rattle.cell_attributes.specs.Texts.{text_as, node_text}

-- The node that an internal pin names. One that names none has no text.
abbrev pub node_as : Vocabulary → Option Attribute → Text
node_as v None = text.Absent
node_as v (Some attribute) = node_text v attribute

-- An output takes its `state_function` where it has one, else its `internal_node`, else its `function`.
abbrev pub function_or : Vocabulary → Option Attribute → Option Attribute → Text
function_or v None function = text_as v scope.Function function
function_or v (Some written) function = node_text v written

abbrev pub output_with : Vocabulary → Option Attribute → Option Attribute → Option Attribute → Text
output_with v None internal function = function_or v internal function
output_with v (Some state) internal function = text_as v scope.StateFunction (Some state)

abbrev pub output_text : Vocabulary → Group → Text
output_text v group =
    output_with v (attribute_of group (codes "state_function")) (attribute_of group (codes "internal_node"))
    (attribute_of group (codes "function"))

abbrev pub pin_text_as : Vocabulary → Group → Option Direction → Text
pin_text_as v group None = text.Absent
pin_text_as v group (Some direction.Input) = text.Absent
pin_text_as v group (Some direction.Output) = output_text v group
pin_text_as v group (Some direction.Internal) = node_as v (attribute_of group (codes "internal_node"))

-- The text that the pins of a group have.
abbrev pub pin_text : Vocabulary → Group → Text
pin_text v group = pin_text_as v group (direction_of group)
