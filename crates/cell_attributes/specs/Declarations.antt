-- The names that a cell declares, and those that are declared twice or are no names (this project's rules).
use Rattle.std.specs.Prelude.{ℕ, Bool, true, false, not, ◌&&◌, List, [], ◌∷◌, ◌++◌, map, flat_map, codes, bytes_eq, Option, Some}
use Rattle.std.specs.Prelude.{None, is_some, if◌then◌else◌}
use Rattle.std.specs.Option.{option_map_or}
use Rattle.std.specs.List.{list_any}
use Rattle.liberty_groups.specs.declared.tree.Value.{Value}
use Rattle.liberty_groups.specs.declared.tree.Group.{Group}
use Rattle.bool_functions.specs.NameList.{number_of}
use Rattle.cell_machine.specs.declared.pins.Direction.{Direction}
use Rattle.cell_machine.specs.declared.pins.Direction.TheVariants as direction
use Rattle.cell_machine.specs.CellRules.{is_name}
use Rattle.liberty_groups.specs.Attributes.{Attribute, attribute_of}
use Rattle.cell_attributes.specs.declared.declarations.Role.{Role}
use Rattle.cell_attributes.specs.declared.declarations.Role.TheVariants.{Bearer, Node, Plain}
use Rattle.cell_attributes.specs.Groups.{inner_groups, is_pin, is_state, cell_name}
use Rattle.cell_attributes.specs.Pins.{direction_of}
use Rattle.cell_attributes.specs.States.{StateName, states_in}

-- A name that the cell declares, and the offset of its group.
pub record Declared : Type 0 where
  pub name : List ℕ
  pub role : Role
  pub at : ℕ

abbrev pub is_internal : Option Direction → Bool
is_internal None = false
is_internal (Some direction.Input) = false
is_internal (Some direction.Output) = false
is_internal (Some direction.Internal) = true

-- whether an attribute has this text
abbrev pub says : List ℕ → Option Attribute → Bool
says text attribute = option_map_or (λ (a : Attribute). bytes_eq a.text text) attribute false

-- whether a pin of this group is internal and bears the name of the node that it names
abbrev pub bears : Group → List ℕ → Bool
bears group name = is_internal (direction_of group) && says name (attribute_of group (codes "internal_node"))

abbrev pub declared_pin : Group → Value → Declared
declared_pin group value =
    record { name = value.bytes; role = if bears group value.bytes then Bearer else Plain; at = group.at }

abbrev pub declared_as : ℕ → List ℕ → Option (List ℕ) → List Declared
declared_as at first None = record { name = first; role = Node; at = at } ∷ []
declared_as at first (Some second) =
    record { name = first; role = Plain; at = at } ∷ record { name = second; role = Plain; at = at } ∷ []

-- a variable or node, by the offset of its group
abbrev pub declared_state : ℕ → StateName → List Declared
declared_state at state = declared_as at state.first state.second

abbrev pub declared_in : Group → List Declared
declared_in group =
    if is_pin group then map (declared_pin group) group.arguments
    else (if is_state group then flat_map (declared_state group.at) (states_in group) else [])

-- All pins, variables and nodes of a cell, in their order in it.
abbrev pub declared_of : Group → List Declared
declared_of cell = flat_map declared_in (inner_groups cell.items)

-- An internal pin may bear the name of the node that it names.
abbrev pub may_share : Role → Role → Bool
may_share Bearer Node = true
may_share Node Bearer = true
may_share _ _ = false

abbrev pub clashes : Declared → Declared → Bool
clashes one other = bytes_eq one.name other.name && not (may_share one.role other.role)

-- The offsets of those that clash with an earlier one, where these stand before them.
abbrev pub clashes_after : List Declared → List Declared → List ℕ
clashes_after earlier [] = []
clashes_after earlier (d ∷ ds) =
    (if list_any (clashes d) earlier then d.at ∷ [] else []) ++ clashes_after (earlier ++ d ∷ []) ds

-- An earlier cell of the library has this cell's name.
abbrev pub known_cell : List (List ℕ) → Group → List ℕ
known_cell earlier cell = if is_some (number_of earlier (cell_name cell)) then cell.at ∷ [] else []

-- Two of the cell's pins, variables and nodes share a name, or an earlier cell of the library has this cell's name.
abbrev pub duplicates : List (List ℕ) → Group → List ℕ
duplicates earlier cell = known_cell earlier cell ++ clashes_after [] (declared_of cell)

-- A name is empty, has more than 255 bytes, or a byte that is not printable ASCII or is a space.
abbrev pub bad_name_in : Declared → List ℕ
bad_name_in declared = if is_name declared.name then [] else declared.at ∷ []

abbrev pub bad_cell_name : Group → List ℕ
bad_cell_name cell = if is_name (cell_name cell) then [] else cell.at ∷ []

abbrev pub bad_names : Group → List ℕ
bad_names cell = bad_cell_name cell ++ flat_map bad_name_in (declared_of cell)
