-- The states and outputs of a cell, over its numbered names (this project's rules). They are told of every cell. What
-- stands in the place of a part that refuses the cell does not matter.
use Rattle.std.specs.Prelude.{ℕ, ◌+◌, ◌-◌, ◌/◌, ◌≤◌, ⊤, Bool, false, nat_eq, nat_lt, List, [], ◌∷◌, ◌++◌, map, flat_map}
use Rattle.std.specs.Prelude.{bytes_eq, Option, Some, None, unwrap_or, if◌then◌else◌}
use Rattle.liberty_groups.specs.declared.tree.Group.{Group}
use Rattle.bool_functions.specs.declared.tree.Node.{Node}
use Rattle.bool_functions.specs.declared.tree.Node.TheVariants as tree
use Rattle.bool_functions.specs.Tree.{renamed_by, name_bound}
use Rattle.bool_functions.specs.Support.{insert_all, support_of}
use Rattle.statetables.specs.declared.table.StateTable.{StateTable}
use Rattle.cell_machine.specs.declared.groups.Both.TheVariants as both
use Rattle.cell_machine.specs.declared.groups.Clocked.{Clocked}
use Rattle.cell_machine.specs.declared.groups.Gated.{Gated}
use Rattle.cell_machine.specs.declared.groups.GroupKind.{GroupKind}
use Rattle.cell_machine.specs.declared.groups.GroupKind.TheVariants as kind
use Rattle.cell_machine.specs.declared.groups.StateGroup.{StateGroup}
use Rattle.cell_machine.specs.declared.outputs.Source.{Source}
use Rattle.cell_machine.specs.declared.outputs.Source.TheVariants as source
use Rattle.cell_machine.specs.declared.outputs.OutputPin.{OutputPin}
use Rattle.cell_attributes.specs.declared.vocabulary.Class.{Class}
use Rattle.cell_attributes.specs.declared.vocabulary.Class.TheVariants.{Input, Driven}
use Rattle.cell_attributes.specs.declared.texts.Text.{Text}
use Rattle.cell_attributes.specs.declared.texts.Text.TheVariants as text
use Rattle.cell_attributes.specs.declared.state_readings.StateReading.{StateReading}
use Rattle.cell_attributes.specs.Groups.{names_in}
use Rattle.cell_attributes.specs.Pins.{direction_of}
use Rattle.cell_attributes.specs.Scans.{is_output_group}
use Rattle.cell_attributes.specs.States.{Arguments, StateName, arguments_of, is_table, first_both, second_both}
use Rattle.cell_attributes.specs.Vocabulary.{Vocabulary}
use Rattle.cell_attributes.specs.Texts.{class_at}
use Rattle.cell_attributes.specs.StateReadings.{is_ff}
use Rattle.cell_attributes.specs.Outputs.{pin_text}

-- whether this is the name of a second variable
abbrev pub is_second_name : List ℕ → Option (List ℕ) → Bool
is_second_name name None = false
is_second_name name (Some second) = bytes_eq second name

-- The number of a variable or node in a cell, where the state of the first of these groups has this number.
abbrev pub number_in : List StateName → ℕ → List ℕ → Option ℕ
number_in [] n name = None
number_in (state ∷ states) n name =
    if bytes_eq state.first name then Some n
    else (if is_second_name name state.second then Some (n + 1) else number_in states (n + 2) name)

-- The number in a cell of the name with this number, class and target: a pin has its own, and all else that of its state.
abbrev pub number_as : List StateName → ℕ → ℕ → Class → List ℕ → ℕ
number_as states pins i Input target = i
number_as states pins i Driven target = i
number_as states pins i _ target = unwrap_or (number_in states pins target) i

abbrev pub numbers_from : List StateName → ℕ → List Class → ℕ → List (List ℕ) → List ℕ
numbers_from states pins classes i [] = []
numbers_from states pins classes i (target ∷ targets) =
    number_as states pins i (class_at classes i) target ∷ numbers_from states pins classes (i + 1) targets

-- The numbers in a cell of all names.
abbrev pub cell_numbers : List StateName → ℕ → Vocabulary → List ℕ
cell_numbers states pins v = numbers_from states pins v.classes 0 v.targets

-- the function of a text, over the numbers of a cell
abbrev pub function_in : List ℕ → Text → Option Node
function_in to (text.Reads f at) = Some (renamed_by to f)
function_in to _ = None

-- the numbers of the names of a text are below a bound
abbrev pub FitsText : ℕ → Text → Type 0
FitsText n (text.Reads f at) = name_bound f ≤ n
FitsText n _ = ⊤

pub record FitsReading (n : ℕ) (r : StateReading) : Type 0 where
  pub data_fits : FitsText n r.data_text
  pub control_fits : FitsText n r.control
  pub clear_fits : FitsText n r.clear
  pub preset_fits : FitsText n r.preset

abbrev pub function_of : List ℕ → Text → Node
function_of to written = unwrap_or (function_in to written) (tree.Name 0)

abbrev pub clocked : List ℕ → Group → StateReading → Clocked
clocked to group r = record {
  next_state = function_of to r.data_text;
  clocked_on = function_of to r.control;
  clear = function_in to r.clear;
  preset = function_in to r.preset;
  both1 = unwrap_or (first_both group) both.Unknown;
  both2 = unwrap_or (second_both group) both.Unknown;
}

abbrev pub gated : List ℕ → Group → StateReading → Gated
gated to group r = record {
  data_in = function_in to r.data_text;
  enable = function_in to r.control;
  clear = function_in to r.clear;
  preset = function_in to r.preset;
  both1 = unwrap_or (first_both group) both.Unknown;
  both2 = unwrap_or (second_both group) both.Unknown;
}

abbrev pub kind_of_texts : List ℕ → Group → StateReading → GroupKind
kind_of_texts to group r = if is_ff group then kind.Ff (clocked to group r) else kind.Latch (gated to group r)

-- a state group for each node of a table, of which so many come from this one on
abbrev pub node_groups : StateTable → StateReading → ℕ → List (List ℕ) → List StateGroup
node_groups table r node [] = []
node_groups table r node (name ∷ names) =
    record { kind = kind.Table table node r.inputs; support = r.support } ∷ node_groups table r (node + 1) names

abbrev pub table_groups : StateReading → Arguments → List StateGroup
table_groups r arguments = node_groups r.table r 0 (names_in arguments.second)

abbrev pub groups_with : List ℕ → Group → StateReading → Option Arguments → List StateGroup
groups_with to group r None = []
groups_with to group r (Some arguments) =
    if is_table group then table_groups r arguments
    else record { kind = kind_of_texts to group r; support = r.support } ∷ []

abbrev pub groups_in : List ℕ → Group → StateReading → List StateGroup
groups_in to group r = groups_with to group r (arguments_of group)

-- The state groups of a cell, from its groups that hold states and what they say.
abbrev pub groups_from : List ℕ → List Group → List StateReading → List StateGroup
groups_from to [] readings = []
groups_from to (group ∷ groups) [] = []
groups_from to (group ∷ groups) (r ∷ readings) = groups_in to group r ++ groups_from to groups readings

-- the source of a number
abbrev pub source_of : ℕ → ℕ → Source
source_of pins i = if nat_lt i pins then source.Pin i else source.State ((i - pins) / 2)

-- What the name with this number stands for in a support, where the state of the first of these groups has this number.
-- A second variable stands for its state and, where both `clear` and `preset` are written, for the names of both.
abbrev pub supports_of_both : Option Node → Option Node → List ℕ
supports_of_both (Some f) (Some g) = support_of f ++ support_of g
supports_of_both _ _ = []

abbrev pub second_support : ℕ → GroupKind → List ℕ
second_support name (kind.Ff k) = name ∷ supports_of_both k.clear k.preset
second_support name (kind.Latch k) = name ∷ supports_of_both k.clear k.preset
second_support name (kind.Table table node inputs) = (name + 1) ∷ []

abbrev pub stands_for : ℕ → List StateGroup → ℕ → List ℕ
stands_for name [] i = i ∷ []
stands_for name (group ∷ groups) i =
    if nat_eq i (name + 1) then second_support name group.kind else stands_for (name + 2) groups i

-- The support of a function: what its names stand for, pins and then states, ascending.
abbrev pub sources_of : ℕ → List StateGroup → Node → List Source
sources_of pins groups f = map (source_of pins) (insert_all [] (flat_map (stands_for pins groups) (support_of f)))

abbrev pub output_pin : ℕ → List StateGroup → List ℕ → ℕ → Text → OutputPin
output_pin pins groups to pin written =
    record { pin = pin; function = function_of to written; support = sources_of pins groups (function_of to written) }

abbrev pub output_in : Vocabulary → ℕ → List StateGroup → List ℕ → ℕ → Group → List OutputPin
output_in v pins groups to pin owner =
    if is_output_group (direction_of owner) then output_pin pins groups to pin (pin_text v owner) ∷ [] else []

-- The outputs of a cell, from the groups of its pins, where the first pin has this number.
abbrev pub outputs_from : Vocabulary → ℕ → List StateGroup → List ℕ → ℕ → List Group → List OutputPin
outputs_from v pins groups to pin [] = []
outputs_from v pins groups to pin (owner ∷ owners) =
    output_in v pins groups to pin owner ++ outputs_from v pins groups to (pin + 1) owners
