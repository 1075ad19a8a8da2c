-- What the groups that hold states say (Liberty Reference Manual, `ff`, `latch` and `statetable` groups).
use Rattle.std.specs.Prelude.{ℕ, Bool, true, false, not, ◌||◌, ◌==◌, nat_lt, nat_le, List, [], ◌++◌, length, filter, codes}
use Rattle.std.specs.Prelude.{Option, Some, None, is_none, Result, Ok, Err, if◌then◌else◌}
use Rattle.std.specs.Option.{option_map_or}
use Rattle.std.specs.List.{list_any, list_all, filter_map}
use Rattle.liberty_groups.specs.declared.tree.Group.{Group}
use Rattle.bool_functions.specs.NameList.{number_of}
use Rattle.bool_functions.specs.Support.{insert_all}
use Rattle.statetables.specs.declared.fault.TableFault.{TableFault}
use Rattle.statetables.specs.declared.table.StateTable.{StateTable}
use Rattle.statetables.specs.declared.table.TableRow.{TableRow}
use Rattle.statetables.specs.Reading.{table_of}
use Rattle.cell_machine.specs.CellRules.{is_free}
use Rattle.liberty_groups.specs.Attributes.{Attribute, attribute_of}
use Rattle.cell_attributes.specs.declared.texts.Use.{Use}
use Rattle.cell_attributes.specs.declared.texts.Use.TheVariants as use_
use Rattle.cell_attributes.specs.declared.texts.Scope.{Scope}
use Rattle.cell_attributes.specs.declared.texts.Scope.TheVariants as scope
use Rattle.cell_attributes.specs.declared.texts.Text.{Text}
use Rattle.cell_attributes.specs.declared.texts.Text.TheVariants as text
use Rattle.cell_attributes.specs.declared.state_readings.StateReading.{StateReading}
use Rattle.cell_attributes.specs.Groups.{is_called, names_in}
use Rattle.cell_attributes.specs.Scans.{is_missing}
use Rattle.cell_attributes.specs.States.{Arguments, arguments_of, is_table, states_in}
use Rattle.cell_attributes.specs.Vocabulary.{Vocabulary}
use Rattle.cell_attributes.specs.Texts.{text_as, control_use, class_at, is_unknown, is_coupled, text_support}

abbrev pub is_ff : Group → Bool
is_ff group = is_called (codes "ff") group

-- `next_state` and `clocked_on` of an `ff`, `data_in` and `enable` of a `latch`
abbrev pub data_name : Group → List ℕ
data_name group = if is_ff group then codes "next_state" else codes "data_in"

abbrev pub control_name : Group → List ℕ
control_name group = if is_ff group then codes "clocked_on" else codes "enable"

-- whether both are written or neither
abbrev pub both_or_none : Bool → Bool → Bool
both_or_none true true = true
both_or_none true false = false
both_or_none false true = false
both_or_none false false = true

-- An `ff` needs both attributes, a `latch` both or neither, and a `statetable` needs `table`.
abbrev pub lacks_attribute : Group → Bool
lacks_attribute group =
    if is_table group then is_missing (codes "table") group
    else (if is_ff group then is_missing (data_name group) group || is_missing (control_name group) group
    else not (both_or_none (is_missing (data_name group) group) (is_missing (control_name group) group)))

-- A group that lacks an attribute that it needs, or whose arguments are not two names, is malformed.
abbrev pub place_if : Bool → ℕ → Option ℕ
place_if here at = if here then Some at else None

abbrev pub group_malformed : Group → Option ℕ
group_malformed group = place_if (is_none (arguments_of group) || lacks_attribute group) group.at

-- whether the group holds a state: a table without nodes holds none
abbrev pub holds_state : Group → Bool
holds_state group = not (length (states_in group) == 0)

-- the numbers of a group's own variables
abbrev pub own_scope : Vocabulary → Option Arguments → Scope
own_scope v None = scope.Data None None
own_scope v (Some arguments) = scope.Data (number_of v.names arguments.first) (number_of v.names arguments.second)

-- The inputs of a table are input pins.
unfoldable pub word_use : Vocabulary → List ℕ → Use
word_use v word = option_map_or (λ i. control_use (class_at v.classes i)) (number_of v.names word) use_.Unknown

abbrev pub input_words : Option Arguments → List (List ℕ)
input_words None = []
input_words (Some arguments) = names_in arguments.first

abbrev pub node_words : Option Arguments → List (List ℕ)
node_words None = []
node_words (Some arguments) = names_in arguments.second

abbrev pub has_unknown_word : Vocabulary → List (List ℕ) → Bool
has_unknown_word v words = list_any (λ word. is_unknown (word_use v word)) words

abbrev pub has_coupled_word : Vocabulary → List (List ℕ) → Bool
has_coupled_word v words = list_any (λ word. is_coupled (word_use v word)) words

-- In a table of several nodes no row looks at a present state.
abbrev pub is_uncoupled : StateTable → Bool
is_uncoupled table = nat_le table.nodes 1 || list_all (λ (row : TableRow). list_all is_free row.current) table.rows

-- What is wrong with a table.
abbrev pub table_judged : ℕ → Result StateTable TableFault → Text
table_judged at (Ok table) = if is_uncoupled table then text.Absent else text.Coupled at
table_judged at (Err e) = text.Malformed at

abbrev pub table_text : ℕ → ℕ → Option Attribute → Text
table_text inputs nodes None = text.Absent
table_text inputs nodes (Some attribute) = table_judged attribute.at (table_of attribute.text inputs nodes)

-- Without its two arguments a table has no widths, and is not judged.
abbrev pub table_with : Option Arguments → Option Attribute → Text
table_with None attribute = text.Absent
table_with (Some arguments) attribute =
    table_text (length (names_in arguments.first)) (length (names_in arguments.second)) attribute

-- the table of a text over so many inputs and nodes
abbrev pub table_or : ℕ → ℕ → Result StateTable TableFault → StateTable
table_or inputs nodes (Ok table) = table
table_or inputs nodes (Err e) = record { inputs = inputs; nodes = nodes; rows = [] }

abbrev pub table_in : ℕ → ℕ → Option Attribute → StateTable
table_in inputs nodes None = record { inputs = inputs; nodes = nodes; rows = [] }
table_in inputs nodes (Some attribute) = table_or inputs nodes (table_of attribute.text inputs nodes)

-- Without its two arguments a table has no widths, and no rows.
abbrev pub no_table : StateTable
no_table = record { inputs = 0; nodes = 0; rows = [] }

abbrev pub table_found : Option Arguments → Option Attribute → StateTable
table_found None attribute = no_table
table_found (Some arguments) attribute =
    table_in (length (names_in arguments.first)) (length (names_in arguments.second)) attribute

-- The support of a group: the input pins that its texts name, ascending. Pins have the first numbers.
abbrev pub pins_among : ℕ → List ℕ → List ℕ
pins_among pins names = insert_all [] (filter (λ i. nat_lt i pins) names)

abbrev pub names_read : Text → Text → Text → Text → List ℕ
names_read data_ control clear preset =
    text_support data_ ++ (text_support control ++ (text_support clear ++ text_support preset))

-- What an `ff` or `latch` says.
abbrev pub reading_with : ℕ → Group → Text → Text → Text → Text → StateReading
reading_with pins group data_ control clear preset = record {
  at = group.at;
  holds = holds_state group;
  malformed = group_malformed group;
  unknown = None;
  coupled = None;
  data_text = data_;
  control = control;
  clear = clear;
  preset = preset;
  inputs = [];
  table = no_table;
  support = pins_among pins (names_read data_ control clear preset);
}

abbrev pub reading_of_texts : Vocabulary → ℕ → Group → StateReading
reading_of_texts v pins group =
    reading_with pins group (text_as v (own_scope v (arguments_of group)) (attribute_of group (data_name group)))
    (text_as v scope.Control (attribute_of group (control_name group)))
    (text_as v scope.Control (attribute_of group (codes "clear")))
    (text_as v scope.Control (attribute_of group (codes "preset")))

-- the number of a name
unfoldable pub number_in : Vocabulary → List ℕ → Option ℕ
number_in v word = number_of v.names word

abbrev pub numbers_of : Vocabulary → List (List ℕ) → List ℕ
numbers_of v words = filter_map (number_in v) words

-- What a `statetable` says.
abbrev pub reading_of_table : Vocabulary → ℕ → Group → StateReading
reading_of_table v pins group = record {
  at = group.at;
  holds = holds_state group;
  malformed = group_malformed group;
  unknown = place_if (has_unknown_word v (input_words (arguments_of group))) group.at;
  coupled = place_if (has_coupled_word v (input_words (arguments_of group))) group.at;
  data_text = table_with (arguments_of group) (attribute_of group (codes "table"));
  control = text.Absent;
  clear = text.Absent;
  preset = text.Absent;
  inputs = numbers_of v (input_words (arguments_of group));
  table = table_found (arguments_of group) (attribute_of group (codes "table"));
  support = pins_among pins (numbers_of v (input_words (arguments_of group)));
}

abbrev pub state_reading : Vocabulary → ℕ → Group → StateReading
state_reading v pins group = if is_table group then reading_of_table v pins group else reading_of_texts v pins group
