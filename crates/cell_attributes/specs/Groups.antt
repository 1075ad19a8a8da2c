-- The groups in a cell's group, and the texts that its statements hold (Liberty Reference Manual, `cell` group).
use Rattle.std.specs.Prelude.{ℕ, Bool, not, ◌||◌, ◌&&◌, ◌==◌, List, [], ◌∷◌, length, map, filter, codes, bytes_eq, Option, Some}
use Rattle.std.specs.Prelude.{None}
use Rattle.std.specs.List.{filter_map}
use Rattle.liberty_groups.specs.declared.tree.Value.{Value}
use Rattle.liberty_groups.specs.declared.tree.Item.{Item, out-Item}
use Rattle.liberty_groups.specs.declared.tree.Item.TheOpen.{Item-F}
use Rattle.liberty_groups.specs.declared.tree.Item.TheOpen as layer
use Rattle.liberty_groups.specs.declared.tree.Group.{Group}
use Rattle.liberty_groups.specs.Attributes.{Attribute, attributes_named, words_between}

-- the group that a statement is, where it is one
abbrev pub inner_of : Item-F Item Group → Option Group
inner_of (layer.Simple n value at) = None
inner_of (layer.Complex n arguments at) = None
inner_of (layer.Inner group) = Some group

-- the groups among the statements of a group, in order
abbrev pub inner_groups : List Item → List Group
inner_groups items = filter_map (λ item. inner_of (out-Item item)) items

-- whether a group has this name
abbrev pub is_called : List ℕ → Group → Bool
is_called name group = bytes_eq group.name name

-- A pin group makes a pin for each of its names. One without names makes none, and nothing of it is judged.
-- (Liberty Reference Manual, `pin` group.)
abbrev pub is_pin : Group → Bool
is_pin group = is_called (codes "pin") group && not (length group.arguments == 0)

-- The groups that hold states. (Liberty Reference Manual, `ff`, `latch` and `statetable` groups.)
abbrev pub is_state : Group → Bool
is_state group = is_called (codes "ff") group || (is_called (codes "latch") group || is_called (codes "statetable") group)

-- The groups that stand for several pins or states at once. (Liberty Reference Manual, `bus`, `bundle`, `ff_bank` and
-- `latch_bank` groups.)
abbrev pub is_bank : Group → Bool
is_bank group =
    is_called (codes "bus") group
    || (is_called (codes "bundle") group || (is_called (codes "ff_bank") group || is_called (codes "latch_bank") group))

-- the pin groups of a cell, in order
abbrev pub pin_groups : Group → List Group
pin_groups cell = filter is_pin (inner_groups cell.items)

-- the groups of a cell that hold states, in order
abbrev pub state_groups : Group → List Group
state_groups cell = filter is_state (inner_groups cell.items)

-- The name of a cell is the first argument of its group, and empty where there is none. (Liberty Reference Manual,
-- `cell` group; this project's rule where it is absent.)
abbrev pub first_argument : List Value → List ℕ
first_argument [] = []
first_argument (value ∷ more) = value.bytes

abbrev pub cell_name : Group → List ℕ
cell_name cell = first_argument cell.arguments

-- the offsets of all simple attributes of this name in a group
abbrev pub offsets_of : List ℕ → Group → List ℕ
offsets_of name group = map (λ (attribute : Attribute). attribute.at) (attributes_named name group.items)

-- The names in a text are separated by spaces. (This project's rule.)
abbrev pub names_in : List ℕ → List (List ℕ)
names_in text = words_between (λ byte. byte == 32) text
