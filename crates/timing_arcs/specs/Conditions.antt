-- The condition of a timing group (Liberty Reference Manual, `when`).
use Rattle.std.specs.Prelude.{ℕ, Bool, true, false, ◌==◌, nat_lt, List, [], length, codes, Option, Some, None, Result, Ok}
use Rattle.std.specs.Prelude.{Err, if◌then◌else◌}
use Rattle.std.specs.Option.{option_map_or}
use Rattle.std.specs.List.{list_any, list_all}
use Rattle.bool_functions.specs.declared.tree.Node.{Node}
use Rattle.bool_functions.specs.declared.faults.FunctionFault.{FunctionFault}
use Rattle.bool_functions.specs.declared.faults.FunctionFault.TheVariants as fault
use Rattle.bool_functions.specs.FunctionText.{reading_of}
use Rattle.bool_functions.specs.Support.{support_of}
use Rattle.bool_functions.specs.Tree.{value_of}
use Rattle.liberty_groups.specs.declared.tree.Group.{Group}
use Rattle.cell_machine.specs.CellRules.{is_input_pin}
use Rattle.cell_machine.specs.Names.{has}
use Rattle.timing_arcs.specs.declared.condition.Condition.{Condition}
use Rattle.timing_arcs.specs.declared.condition.Condition.TheVariants.{Always, Never, Where, Malformed, Unknown}
use Rattle.timing_arcs.specs.declared.condition.Plain.{Plain}
use Rattle.timing_arcs.specs.declared.condition.Plain.TheVariants as plain
use Rattle.timing_arcs.specs.declared.subject.Subject.{Subject}
use Rattle.liberty_groups.specs.Attributes.{Attribute, attribute_of}

-- A condition without names is a constant: it holds always where its value is 1, and never where it is 0.
-- (This project's rule.)
abbrev pub constant_or : Node → Condition
constant_or f = if length (support_of f) == 0 then (if value_of [] f then Always else Never) else Where f

-- The condition of a tree. It may name input pins alone. (This project's rule.)
abbrev pub condition_of_tree : Subject → Node → Condition
condition_of_tree subject f = if list_all (is_input_pin subject.pins) (support_of f) then constant_or f else Unknown

-- a condition without a function
abbrev pub plain_condition : Plain → Condition
plain_condition plain.Always = Always
plain_condition plain.Never = Never
plain_condition plain.Unknown = Unknown

-- the condition with this function, or the one in its place
abbrev pub condition_by : Option Plain → Node → Condition
condition_by None f = Where f
condition_by (Some p) f = plain_condition p

-- The condition of a text that reads so. One that is too long is malformed.
abbrev pub condition_as : Subject → Result Node FunctionFault → Condition
condition_as subject (Ok f) = condition_of_tree subject f
condition_as subject (Err (fault.UnknownName at)) = Unknown
condition_as subject (Err _) = Malformed

-- The condition that a text stands for, over the names of the cell's pins.
unfoldable pub condition_in : Subject → List ℕ → Condition
condition_in subject text = condition_as subject (reading_of subject.names text)

-- The condition of a timing group. One without `when` holds always. (Liberty Reference Manual, `when`.)
unfoldable pub condition_of : Subject → Group → Condition
condition_of subject group =
    option_map_or (λ (attribute : Attribute). condition_in subject attribute.text) (attribute_of group (codes "when")) Always

-- The tree of a condition, where it is none that always holds.
abbrev pub tree_of : Condition → Option Node
tree_of (Where f) = Some f
tree_of _ = None

-- Whether what stands under the condition is made.
abbrev pub may_hold : Condition → Bool
may_hold Always = true
may_hold (Where f) = true
may_hold _ = false

abbrev pub is_malformed : Condition → Bool
is_malformed Malformed = true
is_malformed _ = false

abbrev pub has_unknown : Condition → Bool
has_unknown Unknown = true
has_unknown _ = false

-- The pins that the condition names, each once, in ascending order.
abbrev pub named_pins : Condition → List ℕ
named_pins (Where f) = support_of f
named_pins _ = []

-- Whether the condition names one of these pins.
abbrev pub names_one : List ℕ → Condition → Bool
names_one pins condition = list_any (has pins) (named_pins condition)

-- Whether the condition has more than 10 names in its support. (This project's limit.)
abbrev pub is_wide : Condition → Bool
is_wide condition = nat_lt 10 (length (named_pins condition))
