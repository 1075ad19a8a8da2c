-- The core of a cell with three-state outputs: a cell without Z that has, for each of them, the output as if it never floated,
-- and one more output that is 1 where it does not float (this project's form of `three_state`).
use Rattle.std.specs.Prelude.{ℕ, ◌+◌, Bool, true, not, List, [], ◌∷◌, ◌++◌}
use Rattle.std.specs.Prelude.{map, filter, codes, bytes_eq, decimal, Option, Some, None, is_ok, if◌then◌else◌}
use Rattle.bool_functions.specs.FunctionText.{free_names, reading_of}
use Rattle.liberty_groups.specs.declared.tree.Value.{Value}
use Rattle.liberty_groups.specs.declared.tree.Item.{Item, out-Item}
use Rattle.liberty_groups.specs.declared.tree.Item.TheOpen.{Item-F}
use Rattle.liberty_groups.specs.declared.tree.Item.TheOpen as layer
use Rattle.liberty_groups.specs.declared.tree.Item.TheVariants as item
use Rattle.liberty_groups.specs.declared.tree.Group.{Group, roll-Group}
use Rattle.liberty_groups.specs.Attributes.{Attribute}
use Rattle.group_copies.specs.Copies.{with_items}
use Rattle.core_groups.specs.Outputs.{ThreeStateOutput, three_state_of, is_three_state, three_state_outputs}

-- What stays of a three-state output in the core: all but when it floats and its delays, which are the driver's.
abbrev pub stays_in_core : Item-F Item Group → Bool
stays_in_core (layer.Simple name value at) = not (bytes_eq name (codes "three_state"))
stays_in_core (layer.Complex name arguments at) = true
stays_in_core (layer.Inner group) = not (bytes_eq group.name (codes "timing"))

abbrev pub core_pin : Group → Group
core_pin pin = with_items pin (filter (λ item. stays_in_core (out-Item item)) pin.items)

-- a statement of the cell as it stands in the core
abbrev pub core_statement_as : Item → Item-F Item Group → Item
core_statement_as whole (layer.Simple name value at) = whole
core_statement_as whole (layer.Complex name arguments at) = whole
core_statement_as whole (layer.Inner group) = if is_three_state group then item.Inner (core_pin group) else whole

abbrev pub core_statement : Item → Item
core_statement whole = core_statement_as whole (out-Item whole)

-- Whether a text is a function text by itself, whatever its names are.
abbrev pub reads_alone : List ℕ → Bool
reads_alone text = is_ok (reading_of (free_names text) text)

-- The function of an output that is 1 where a text, which says when an output floats, is 0. Of a text that is no function text
-- by itself it is the empty text, which is none either.
abbrev pub enable_function : List ℕ → List ℕ
enable_function text = if reads_alone text then codes "!(" ++ text ++ codes ")" else []

-- one text as the values of a statement or the arguments of a group
abbrev pub one_value : List ℕ → List Value
one_value text = record { bytes = text; quoted = true } ∷ []

-- The output for the three-state output with this number, from 0, where this statement says when that floats. Its name is none
-- that a function text can have, and its offset is that of the statement.
abbrev pub enable_statements : Attribute → List Item
enable_statements floats =
    item.Simple (codes "direction") (one_value (codes "output")) floats.at
    ∷ item.Simple (codes "function") (one_value (enable_function floats.text)) floats.at
    ∷ []

abbrev pub enable_pin : ℕ → Attribute → Item
enable_pin number floats =
    item.Inner
    (roll-Group (record {
      name = codes "pin";
      arguments = one_value (codes "-e" ++ decimal (number + 1));
      items = enable_statements floats;
      at = floats.at;
    }))

abbrev pub enable_pin_of : ℕ → Option Attribute → List Item
enable_pin_of number None = []
enable_pin_of number (Some floats) = enable_pin number floats ∷ []

-- those of some three-state outputs, where the first has this number
abbrev pub enable_pins : ℕ → List ThreeStateOutput → List Item
enable_pins number [] = []
enable_pins number (output ∷ outputs) =
    enable_pin_of number (three_state_of output.group) ++ enable_pins (number + 1) outputs

-- The group of the core: the group of the cell with what stays of its three-state outputs, and behind all else one more output
-- for each of them, `-e1`, `-e2` and so on in the order of the pins.
unfoldable pub core_group : Group → Group
core_group cell =
    roll-Group (record {
      name = cell.name;
      arguments = cell.arguments;
      items = map core_statement cell.items ++ enable_pins 0 (three_state_outputs cell);
      at = cell.at;
    })
