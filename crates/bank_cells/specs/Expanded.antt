-- The group of a cell, expanded to single bits (Liberty Reference Manual, `bus`, `bundle`, `ff_bank`, `latch_bank` and
-- `related_bus_pins`). Offsets of what is made are those of what it is made from.
use Rattle.std.specs.Prelude.{ℕ, Bool, true, List, [], ◌∷◌, ◌++◌, map, flat_map, codes, bytes_eq}
use Rattle.std.specs.Prelude.{Option, Some, None, if◌then◌else◌}
use Rattle.std.specs.List.{list_any}
use Rattle.liberty_groups.specs.declared.tree.Value.{Value}
use Rattle.liberty_groups.specs.declared.tree.Item.{Item, out-Item}
use Rattle.liberty_groups.specs.declared.tree.Item.TheOpen.{Item-F}
use Rattle.liberty_groups.specs.declared.tree.Item.TheOpen as layer
use Rattle.liberty_groups.specs.declared.tree.Item.TheVariants as made
use Rattle.liberty_groups.specs.declared.tree.Group.{Group, roll-Group}
use Rattle.liberty_groups.specs.Attributes.{Attribute, simple_named}
use Rattle.bus_texts.specs.declared.bus_types.BusType.{BusType}
use Rattle.bus_texts.specs.declared.vectors.Vector.{Vector}
use Rattle.bus_texts.specs.declared.vectors.VectorKind.{VectorKind}
use Rattle.bus_texts.specs.declared.vectors.VectorKind.TheVariants as kinds
use Rattle.bus_texts.specs.Vectors.{Bank, is_called, is_bank, bank_of, member_name}
use Rattle.bus_texts.specs.Vectors.{pin_vectors, cell_vectors, positions, vector_named}
use Rattle.bus_texts.specs.Texts.{member_of, text_for}
use Rattle.bank_refusals.specs.Members.{member_items}
use Rattle.bank_refusals.specs.Faults.{pin_texts, timing_texts, pins_named, related_words}
use Rattle.bank_refusals.specs.Refusals.{is_pins, has_many, along, state_texts}

-- A value, and a text between quotes.
abbrev pub one_value : List ℕ → Bool → List Value
one_value bytes quoted = record { bytes = bytes; quoted = quoted } ∷ []

abbrev pub text_value : List ℕ → List Value
text_value bytes = one_value bytes true

-- A text as it becomes at a position: that of a statement with one value.
abbrev pub values_at : List Vector → Option ℕ → List Value → List Value
values_at vectors position (value ∷ []) = one_value (text_for vectors position value.bytes) value.quoted
values_at vectors position [] = []
values_at vectors position (value ∷ other ∷ more) = value ∷ other ∷ more

abbrev pub values_if : List Vector → Option ℕ → Bool → List Value → List Value
values_if vectors position is_text values = if is_text then values_at vectors position values else values

-- A statement at a position, of which these names are those of texts.
abbrev pub is_one_of : List (List ℕ) → List ℕ → Bool
is_one_of names name = list_any (bytes_eq name) names

abbrev pub text_as : List Vector → Option ℕ → List (List ℕ) → Item-F Item Group → Item
text_as vectors position names (layer.Simple name value at) =
    made.Simple name (values_if vectors position (is_one_of names name) value) at
text_as vectors position names (layer.Complex name arguments at) = made.Complex name arguments at
text_as vectors position names (layer.Inner group) = made.Inner group

abbrev pub text_at : List Vector → Option ℕ → List (List ℕ) → Item → Item
text_at vectors position names item = text_as vectors position names (out-Item item)

-- A name, and a space behind it.
abbrev pub spaced : List ℕ → List ℕ
spaced name = name ++ 32 ∷ []

-- In `related_pin` the name of a bus or bundle becomes its member at the position.
abbrev pub member_or : List ℕ → Option (List ℕ) → List ℕ
member_or word None = word
member_or word (Some member) = member

abbrev pub member_in : List ℕ → ℕ → Option Vector → List ℕ
member_in word at None = word
member_in word at (Some vector) = member_or word (member_of vector at None)

abbrev pub related_word : List Vector → ℕ → List ℕ → List ℕ
related_word vectors at word = member_in word at (pins_named vectors word)

abbrev pub related_part : List Vector → ℕ → List ℕ → List ℕ
related_part vectors at word = spaced (related_word vectors at word)

abbrev pub members_at : List Vector → ℕ → List ℕ → List ℕ
members_at vectors at text = flat_map (related_part vectors at) (related_words text)

-- In `related_bus_pins` the name of a bus becomes all its members.
abbrev pub all_members : VectorKind → List (List ℕ) → List ℕ → List ℕ
all_members kinds.Bus members word = flat_map spaced members
all_members kinds.Bundle members word = spaced word
all_members kinds.Variable members word = spaced word

abbrev pub bus_members : List ℕ → Option Vector → List ℕ
bus_members word None = spaced word
bus_members word (Some vector) = all_members vector.kind vector.members word

abbrev pub bus_part : List Vector → List ℕ → List ℕ
bus_part vectors word = bus_members word (vector_named vectors word)

abbrev pub members_of_all : List Vector → List ℕ → List ℕ
members_of_all vectors text = flat_map (bus_part vectors) (related_words text)

-- A statement of a `timing` group at a position. `related_bus_pins` becomes a `related_pin`.
abbrev pub related_pins : List ℕ → ℕ → Item
related_pins text at = made.Simple (codes "related_pin") (text_value text) at

abbrev pub related_item : List Vector → Option ℕ → Item → Attribute → Item
related_item vectors None item related = item
related_item vectors (Some at) item related = related_pins (members_at vectors at related.text) related.at

abbrev pub buses_item : List Vector → Option ℕ → Item → Option Attribute → Item
buses_item vectors position item None = text_at vectors position timing_texts item
buses_item vectors position item (Some buses) = related_pins (members_of_all vectors buses.text) buses.at

abbrev pub timing_by : List Vector → Option ℕ → Item → Option Attribute → Option Attribute → Item
timing_by vectors position item None buses = buses_item vectors position item buses
timing_by vectors position item (Some related) buses = related_item vectors position item related

abbrev pub timing_item : List Vector → Option ℕ → Item → Item
timing_item vectors position item =
    timing_by vectors position item (simple_named (codes "related_pin") (out-Item item))
    (simple_named (codes "related_bus_pins") (out-Item item))

abbrev pub timing_at : List Vector → Option ℕ → Group → Group
timing_at vectors position group =
    roll-Group (record {
      name = group.name;
      arguments = group.arguments;
      items = map (timing_item vectors position) group.items;
      at = group.at;
    })

-- A statement of a pin at a position.
abbrev pub pin_item_as : List Vector → Option ℕ → Item-F Item Group → Item → Item
pin_item_as vectors position (layer.Simple name value at) item = text_at vectors position pin_texts item
pin_item_as vectors position (layer.Complex name arguments at) item = item
pin_item_as vectors position (layer.Inner group) item =
    if is_called (codes "timing") group then made.Inner (timing_at vectors position group) else item

abbrev pub pin_item : List Vector → Option ℕ → Item → Item
pin_item vectors position item = pin_item_as vectors position (out-Item item) item

-- The pin that a bus or bundle makes at a position.
abbrev pub member_pin : List Vector → Group → Vector → ℕ → List ℕ → Group
member_pin vectors group vector at member =
    roll-Group (record {
      name = codes "pin";
      arguments = text_value member;
      items = map (pin_item vectors (Some at)) (member_items group vector at member);
      at = group.at;
    })

abbrev pub member_pins : List Vector → Group → Vector → ℕ → List ℕ → List Item
member_pins vectors group vector at member = made.Inner (member_pin vectors group vector at member) ∷ []

abbrev pub vector_pins : List Vector → Group → Vector → List Item
vector_pins vectors group vector = along (member_pins vectors group vector) 0 vector.members

-- The state of a bank at a position.
abbrev pub state_name : Group → List ℕ
state_name group = if is_called (codes "ff_bank") group then codes "ff" else codes "latch"

abbrev pub variable_value : List ℕ → ℕ → Value
variable_value name at = record { bytes = member_name name at; quoted = true }

abbrev pub variables_at : Bank → ℕ → List Value
variables_at bank at = variable_value bank.first at ∷ variable_value bank.second at ∷ []

abbrev pub bank_state : List Vector → Group → Bank → ℕ → Group
bank_state vectors group bank at =
    roll-Group (record {
      name = state_name group;
      arguments = variables_at bank at;
      items = map (text_at vectors (Some at) (state_texts group)) group.items;
      at = group.at;
    })

abbrev pub bank_item : List Vector → Group → Bank → ℕ → Item
bank_item vectors group bank at = made.Inner (bank_state vectors group bank at)

abbrev pub bank_items : List Vector → Group → Option Bank → List Item
bank_items vectors group None = []
bank_items vectors group (Some bank) = map (bank_item vectors group bank) (positions bank.width)

abbrev pub bank_states : List Vector → Group → List Item
bank_states vectors group = bank_items vectors group (bank_of group)

-- A pin of one bit, in whose timing groups buses may be related.
abbrev pub single_pin : List Vector → Group → Group
single_pin vectors group =
    roll-Group (record {
      name = group.name;
      arguments = group.arguments;
      items = map (pin_item vectors None) group.items;
      at = group.at;
    })

-- What stands in the place of a statement of a cell.
abbrev pub single_group : List Vector → Group → List Item
single_group vectors group = made.Inner (if is_called (codes "pin") group then single_pin vectors group else group) ∷ []

abbrev pub expanded_group : List BusType → List Vector → Group → List Item
expanded_group types vectors group =
    if is_pins group then flat_map (vector_pins vectors group) (pin_vectors types group)
    else (if is_bank group then bank_states vectors group else single_group vectors group)

abbrev pub expanded_as : List BusType → List Vector → Item-F Item Group → List Item
expanded_as types vectors (layer.Simple name value at) = made.Simple name value at ∷ []
expanded_as types vectors (layer.Complex name arguments at) = made.Complex name arguments at ∷ []
expanded_as types vectors (layer.Inner group) = expanded_group types vectors group

abbrev pub expanded_item : List BusType → List Vector → Item → List Item
expanded_item types vectors item = expanded_as types vectors (out-Item item)

abbrev pub expanded_cell : List BusType → Group → Group
expanded_cell types cell =
    roll-Group (record {
      name = cell.name;
      arguments = cell.arguments;
      items = flat_map (expanded_item types (cell_vectors types cell)) cell.items;
      at = cell.at;
    })

-- The expanded group of a cell. One without such groups stays as it is.
unfoldable pub expanded : List BusType → Group → Group
expanded types cell = if has_many cell then expanded_cell types cell else cell
