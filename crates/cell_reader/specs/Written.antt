-- What the function texts of a cell name, also where another thing is wrong with them: a text that names nothing of the
-- allowed kind may make states hang on one another too, or name the pin of its own check.
use Rattle.std.specs.Prelude.{ℕ, ◌&&◌, ◌==◌, nat_lt, List, [], ◌∷◌, ◌++◌, length, flat_map, codes, Option, Some, None, Result, Ok}
use Rattle.std.specs.Prelude.{Err, if◌then◌else◌}
use Rattle.std.specs.List.{list_any, filter_map}
use Rattle.liberty_groups.specs.declared.tree.Group.{Group}
use Rattle.bool_functions.specs.declared.tree.Node.{Node}
use Rattle.bool_functions.specs.declared.faults.FunctionFault.{FunctionFault}
use Rattle.bool_functions.specs.declared.faults.FunctionFault.TheVariants as fault
use Rattle.bool_functions.specs.NameList.{number_of}
use Rattle.bool_functions.specs.Support.{support_of}
use Rattle.bool_functions.specs.FunctionText.{free_names, reading_of}
use Rattle.cell_machine.specs.Names.{has}
use Rattle.timing_arcs.specs.declared.subject.Subject.{Subject}
use Rattle.liberty_groups.specs.Attributes.{Attribute, attribute_of}
use Rattle.timing_arcs.specs.RelatedPins.{inputs_of, is_read}
use Rattle.timing_arcs.specs.Timing.{timing_groups}
use Rattle.cell_attributes.specs.declared.texts.Scope.{Scope}
use Rattle.cell_attributes.specs.declared.texts.Scope.TheVariants as scope
use Rattle.cell_attributes.specs.States.{arguments_of, is_table}
use Rattle.cell_attributes.specs.Vocabulary.{Vocabulary}
use Rattle.cell_attributes.specs.Texts.{use_at, is_coupled}
use Rattle.cell_attributes.specs.TextFaults.{coupled_in}
use Rattle.cell_attributes.specs.StateReadings.{data_name, control_name, holds_state, own_scope, input_words, pins_among}
use Rattle.cell_attributes.specs.StateReadings.{numbers_of, reading_of_table}

-- The numbers that the names of a text have among these: where all of them have one, those of its tree, ascending; else those
-- of the names that have one. A text that does not read as a function text, or is too long, has no names.
abbrev pub numbers_read : List (List ℕ) → List ℕ → Result Node FunctionFault → List ℕ
numbers_read names text (Ok f) = support_of f
numbers_read names text (Err (fault.UnknownName at)) = filter_map (number_of names) (free_names text)
numbers_read names text (Err _) = []

abbrev pub numbers_written : List (List ℕ) → List ℕ → List ℕ
numbers_written names text = numbers_read names text (reading_of names text)

-- How many names it has, of each the first alone.
abbrev pub count_read : List ℕ → Result Node FunctionFault → ℕ
count_read text (Ok f) = length (support_of f)
count_read text (Err (fault.UnknownName at)) = length (free_names text)
count_read text (Err _) = 0

-- The conditions of a pin's timing groups that are read and name a pin of the check or arc.
abbrev pub own_written : Subject → Group → Option Attribute → List ℕ
own_written subject group None = []
own_written subject group (Some attribute) =
    if is_read subject group && list_any (has (subject.place ∷ inputs_of subject group))
    (numbers_written subject.names attribute.text)
    then attribute.at ∷ [] else []

abbrev pub own_in : Subject → Group → List ℕ
own_in subject group = own_written subject group (attribute_of group (codes "when"))

abbrev pub own_conditions_of : Subject → Group → List ℕ
own_conditions_of subject pin = flat_map (own_in subject) (timing_groups pin)

-- Those that have more than 10 names.
abbrev pub wide_written : Subject → Group → Option Attribute → List ℕ
wide_written subject group None = []
wide_written subject group (Some attribute) =
    if is_read subject group && nat_lt 10 (count_read attribute.text (reading_of subject.names attribute.text))
    then attribute.at ∷ [] else []

abbrev pub wide_in : Subject → Group → List ℕ
wide_in subject group = wide_written subject group (attribute_of group (codes "when"))

abbrev pub wide_conditions_of : Subject → Group → List ℕ
wide_conditions_of subject pin = flat_map (wide_in subject) (timing_groups pin)

-- A text of a state group that names what makes its state hang on another one.
abbrev pub coupled_written : Vocabulary → Scope → Option Attribute → List ℕ
coupled_written v s None = []
coupled_written v s (Some attribute) =
    if list_any (λ i. is_coupled (use_at v.classes s i)) (numbers_written v.names attribute.text) then attribute.at ∷ [] else []

abbrev pub coupled_texts : Vocabulary → Group → List ℕ
coupled_texts v group =
    coupled_written v (own_scope v (arguments_of group)) (attribute_of group (data_name group))
    ++ (coupled_written v scope.Control (attribute_of group (control_name group))
    ++ (coupled_written v scope.Control (attribute_of group (codes "clear"))
    ++ coupled_written v scope.Control (attribute_of group (codes "preset"))))

-- Where a state group makes its states hang on others. The inputs and the rows of a table are judged apart already.
abbrev pub coupled_of : Vocabulary → ℕ → Group → List ℕ
coupled_of v pins group = if is_table group then coupled_in (reading_of_table v pins group) else coupled_texts v group

-- The input pins that the texts of a state group name.
abbrev pub names_in_text : Vocabulary → Option Attribute → List ℕ
names_in_text v None = []
names_in_text v (Some attribute) = numbers_written v.names attribute.text

abbrev pub names_in_texts : Vocabulary → Group → List ℕ
names_in_texts v group =
    names_in_text v (attribute_of group (data_name group))
    ++ (names_in_text v (attribute_of group (control_name group))
    ++ (names_in_text v (attribute_of group (codes "clear")) ++ names_in_text v (attribute_of group (codes "preset"))))

abbrev pub written_support : Vocabulary → ℕ → Group → List ℕ
written_support v pins group =
    if is_table group then pins_among pins (numbers_of v (input_words (arguments_of group)))
    else pins_among pins (names_in_texts v group)

-- A group that holds a state and names no input pin.
abbrev pub no_support_of : Vocabulary → ℕ → Group → List ℕ
no_support_of v pins group = if holds_state group && length (written_support v pins group) == 0 then group.at ∷ [] else []

-- A group that holds a state and names more than 8 input pins.
abbrev pub wide_support_of : Vocabulary → ℕ → Group → List ℕ
wide_support_of v pins group = if holds_state group && nat_lt 8 (length (written_support v pins group)) then group.at ∷ [] else []
