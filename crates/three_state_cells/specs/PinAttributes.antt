-- A pin group without its timing groups, with the attributes alone that are read of a pin. (This project's rules.)
use Rattle.std.specs.Prelude.{ℕ, true, List, [], ◌∷◌, ◌++◌, flat_map, codes, option_map, Option, Some, None}
use Rattle.liberty_groups.specs.declared.tree.Item.{Item}
use Rattle.liberty_groups.specs.declared.tree.Item.TheVariants as made
use Rattle.liberty_groups.specs.declared.tree.Group.{Group, roll-Group}
use Rattle.liberty_groups.specs.Attributes.{Attribute, attribute_of}
use Rattle.cell_machine.specs.Delay.{least}
use Rattle.cell_attributes.specs.Groups.{offsets_of}

-- The attributes of which the last one of a name counts.
abbrev pub counted_names : List (List ℕ)
counted_names =
    codes "direction"
    ∷ codes "function"
    ∷ codes "state_function"
    ∷ codes "internal_node"
    ∷ codes "min_pulse_width_high"
    ∷ codes "min_pulse_width_low"
    ∷ codes "min_period"
    ∷ []

-- Those of which each one refuses a pin that may not have it, so that the least offset counts.
abbrev pub refusing_names : List (List ℕ)
refusing_names = codes "three_state" ∷ codes "clocked_on_also" ∷ codes "enable_also" ∷ codes "input_map" ∷ []

-- the statement of an attribute
abbrev pub statement : List ℕ → Attribute → Item
statement name a = made.Simple name (record { bytes = a.text; quoted = true } ∷ []) a.at

abbrev pub statement_of : List ℕ → Option Attribute → List Item
statement_of name None = []
statement_of name (Some a) = statement name a ∷ []

abbrev pub counted : Group → List ℕ → List Item
counted group name = statement_of name (attribute_of group name)

abbrev pub without_text : ℕ → Attribute
without_text at = record { text = []; at = at }

abbrev pub refusing_of : Group → List ℕ → Option Attribute
refusing_of group name = option_map without_text (least (offsets_of name group))

abbrev pub refusing : Group → List ℕ → List Item
refusing group name = statement_of name (refusing_of group name)

-- Of `three_state` the last one says besides when the pin floats.
abbrev pub read_attributes : Group → List Item
read_attributes group =
    (flat_map (counted group) counted_names ++ flat_map (refusing group) refusing_names) ++ counted group (codes "three_state")

abbrev pub untimed : Group → Group
untimed group =
    roll-Group (record { name = group.name; arguments = group.arguments; items = read_attributes group; at = group.at })
