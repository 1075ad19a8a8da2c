-- The names that the function texts of a cell may name, and what each is (Liberty Reference Manual, `function`,
-- `state_function`, `next_state` and the other function texts).
use Rattle.std.specs.Prelude.{ℕ, Bool, true, false, List, [], ◌∷◌, ◌++◌, map, flat_map, codes, bytes_eq, Option, Some, None}
use Rattle.std.specs.Prelude.{is_some, if◌then◌else◌}
use Rattle.std.specs.Option.{option_map_or}
use Rattle.std.specs.List.{list_any}
use Rattle.liberty_groups.specs.declared.tree.Value.{Value}
use Rattle.liberty_groups.specs.declared.tree.Group.{Group}
use Rattle.bool_functions.specs.NameList.{number_of}
use Rattle.cell_machine.specs.declared.pins.Direction.{Direction}
use Rattle.cell_machine.specs.declared.pins.Direction.TheVariants as direction
use Rattle.liberty_groups.specs.Attributes.{Attribute, attribute_of}
use Rattle.cell_attributes.specs.declared.vocabulary.Class.{Class}
use Rattle.cell_attributes.specs.declared.vocabulary.Class.TheVariants.{Input, Driven, Alias, Shared, Node, Variable}
use Rattle.cell_attributes.specs.Groups.{pin_groups}
use Rattle.cell_attributes.specs.Pins.{direction_of}
use Rattle.cell_attributes.specs.States.{StateName, states_of}

-- A name, what it is, and the name of the pin, variable or node that it stands for: of an internal pin its node.
pub record Entry : Type 0 where
  pub name : List ℕ
  pub class : Class
  pub target : List ℕ

-- whether a state is the node of this name
abbrev pub is_node_as : List ℕ → List ℕ → Option (List ℕ) → Bool
is_node_as name first None = bytes_eq first name
is_node_as name first (Some second) = false

abbrev pub is_node_named : List ℕ → StateName → Bool
is_node_named name state = is_node_as name state.first state.second

-- whether this is the name of a node
abbrev pub is_node : List StateName → List ℕ → Bool
is_node states name = list_any (is_node_named name) states

-- An internal pin stands for the node that it names. One that names none is a pin that nothing reads.
abbrev pub internal_class : List StateName → List ℕ → Option Attribute → Class
internal_class states name None = Driven
internal_class states name (Some attribute) =
    if is_node states attribute.text then (if bytes_eq attribute.text name then Shared else Alias) else Driven

abbrev pub class_as : List StateName → Group → List ℕ → Option Direction → Class
class_as states group name None = Input
class_as states group name (Some direction.Input) = Input
class_as states group name (Some direction.Output) = Driven
class_as states group name (Some direction.Internal) = internal_class states name (attribute_of group (codes "internal_node"))

abbrev pub is_bound : Class → Bool
is_bound Alias = true
is_bound Shared = true
is_bound _ = false

-- what a pin of this class and name stands for
abbrev pub target_as : Group → List ℕ → Class → List ℕ
target_as group name class =
    if is_bound class then option_map_or (λ (a : Attribute). a.text) (attribute_of group (codes "internal_node")) name else name

abbrev pub entry_with : Group → List ℕ → Class → Entry
entry_with group name class = record { name = name; class = class; target = target_as group name class }

abbrev pub pin_entry : List StateName → Group → Value → Entry
pin_entry states group value = entry_with group value.bytes (class_as states group value.bytes (direction_of group))

abbrev pub pin_entries : List StateName → Group → List Entry
pin_entries states group = map (pin_entry states group) group.arguments

abbrev pub state_entries_as : List ℕ → Option (List ℕ) → List Entry
state_entries_as first None = record { name = first; class = Node; target = first } ∷ []
state_entries_as first (Some second) =
    record { name = first; class = Variable; target = first } ∷ record { name = second; class = Variable; target = second } ∷ []

abbrev pub state_entries : StateName → List Entry
state_entries state = state_entries_as state.first state.second

-- The pins in order, then the variables and nodes in order.
abbrev pub entries_of : List StateName → List Group → List Entry
entries_of states pins = flat_map (pin_entries states) pins ++ flat_map state_entries states

-- Of the entries of one name the first counts, so that an internal pin stands for the node whose name it bears.
abbrev pub firsts_after : List (List ℕ) → List Entry → List Entry
firsts_after known [] = []
firsts_after known (e ∷ es) =
    if is_some (number_of known e.name) then firsts_after known es else e ∷ firsts_after (known ++ e.name ∷ []) es

abbrev pub vocabulary_of : List StateName → List Group → List Entry
vocabulary_of states pins = firsts_after [] (entries_of states pins)

abbrev pub entry_names : List Entry → List (List ℕ)
entry_names entries = map (λ (e : Entry). e.name) entries

abbrev pub entry_classes : List Entry → List Class
entry_classes entries = map (λ (e : Entry). e.class) entries

abbrev pub entry_targets : List Entry → List (List ℕ)
entry_targets entries = map (λ (e : Entry). e.target) entries

-- the names that texts name, and what each is
pub record Vocabulary : Type 0 where
  pub names : List (List ℕ)
  pub classes : List Class
  pub targets : List (List ℕ)

abbrev pub vocabulary : Group → Vocabulary
vocabulary cell = record {
  names = entry_names (vocabulary_of (states_of cell) (pin_groups cell));
  classes = entry_classes (vocabulary_of (states_of cell) (pin_groups cell));
  targets = entry_targets (vocabulary_of (states_of cell) (pin_groups cell));
}
