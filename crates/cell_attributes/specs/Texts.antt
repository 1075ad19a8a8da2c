-- The function texts of a cell: what each may name, and what is wrong with it (Liberty Reference Manual, `ff`, `latch`,
-- `function`, `state_function` and `internal_node`; this project's rules).
use Rattle.std.specs.Prelude.{ℕ, Bool, true, false, ◌||◌, ◌==◌, List, [], ◌∷◌, Option, Some, None, unwrap_or, slice_get, Result}
use Rattle.std.specs.Prelude.{Ok, Err, if◌then◌else◌}
use Rattle.std.specs.Option.{option_map_or}
use Rattle.std.specs.List.{list_any}
use Rattle.bool_functions.specs.declared.tree.Node.{Node as Tree}
use Rattle.bool_functions.specs.declared.tree.Node.TheVariants as tree
use Rattle.bool_functions.specs.declared.faults.FunctionFault.{FunctionFault}
use Rattle.bool_functions.specs.declared.faults.FunctionFault.TheVariants as fault
use Rattle.bool_functions.specs.NameList.{number_of}
use Rattle.bool_functions.specs.Support.{support_of}
use Rattle.bool_functions.specs.FunctionText.{reading_of}
use Rattle.liberty_groups.specs.Attributes.{Attribute}
use Rattle.cell_attributes.specs.declared.vocabulary.Class.{Class}
use Rattle.cell_attributes.specs.declared.vocabulary.Class.TheVariants.{Input, Driven, Alias, Shared, Node, Variable}
use Rattle.cell_attributes.specs.declared.texts.Use.{Use}
use Rattle.cell_attributes.specs.declared.texts.Use.TheVariants as use_
use Rattle.cell_attributes.specs.declared.texts.Scope.{Scope}
use Rattle.cell_attributes.specs.declared.texts.Scope.TheVariants as scope
use Rattle.cell_attributes.specs.declared.texts.WrongNames.{WrongNames}
use Rattle.cell_attributes.specs.declared.texts.WrongNames.TheVariants as wrong
use Rattle.cell_attributes.specs.declared.texts.Text.{Text}
use Rattle.cell_attributes.specs.declared.texts.Text.TheVariants as text
use Rattle.cell_attributes.specs.Vocabulary.{Vocabulary}

-- A text of a state group names input pins. The variables and nodes of groups make states hang on one another, which
-- is left out.
abbrev pub control_use : Class → Use
control_use Input = use_.Allowed
control_use Driven = use_.Unknown
control_use Alias = use_.Unknown
control_use _ = use_.Coupled

abbrev pub own_use : Bool → Class → Use
own_use own Variable = if own then use_.Allowed else use_.Coupled
own_use own class = control_use class

-- `function` names input pins and the variables of `ff` and `latch` groups.
abbrev pub function_use : Class → Use
function_use Input = use_.Allowed
function_use Variable = use_.Allowed
function_use _ = use_.Unknown

-- `state_function` names input pins and internal pins that name a node.
abbrev pub state_function_use : Class → Use
state_function_use Input = use_.Allowed
state_function_use Alias = use_.Allowed
state_function_use Shared = use_.Allowed
state_function_use _ = use_.Unknown

abbrev pub is_number : ℕ → Option ℕ → Bool
is_number i number = option_map_or (λ j. i == j) number false

-- What the name of this number and class is to a text. `next_state` and `data_in` may name the group's own variables.
abbrev pub use_of : Scope → ℕ → Class → Use
use_of scope.Control i class = control_use class
use_of (scope.Data first second) i class = own_use (is_number i first || is_number i second) class
use_of scope.Function i class = function_use class
use_of scope.StateFunction i class = state_function_use class

abbrev pub is_unknown : Use → Bool
is_unknown use_.Unknown = true
is_unknown _ = false

abbrev pub is_coupled : Use → Bool
is_coupled use_.Coupled = true
is_coupled _ = false

-- what the name of a number is; a number that no name has counts as a pin that nothing reads
abbrev pub class_at : List Class → ℕ → Class
class_at classes i = unwrap_or (slice_get classes i) Driven

abbrev pub use_at : List Class → Scope → ℕ → Use
use_at classes scope i = use_of scope i (class_at classes i)

-- whether a tree has a name of this use
abbrev pub has_unknown : List Class → Scope → Tree → Bool
has_unknown classes scope f = list_any (λ i. is_unknown (use_at classes scope i)) (support_of f)

abbrev pub has_coupled : List Class → Scope → Tree → Bool
has_coupled classes scope f = list_any (λ i. is_coupled (use_at classes scope i)) (support_of f)

abbrev pub judged_tree : List Class → Scope → ℕ → Tree → Text
judged_tree classes scope at f =
    if has_unknown classes scope f then text.Unknown at
    else (if has_coupled classes scope f then text.Coupled at else text.Reads f at)

-- What a text with this tree is, where this is wrong with its names.
abbrev pub text_with : Option WrongNames → ℕ → Tree → Text
text_with None at f = text.Reads f at
text_with (Some wrong.Unknown) at f = text.Unknown at
text_with (Some wrong.Coupled) at f = text.Coupled at

-- What a text with this reading is, in a statement at this offset.
abbrev pub judged : List Class → Scope → ℕ → Result Tree FunctionFault → Text
judged classes scope at (Ok f) = judged_tree classes scope at f
judged classes scope at (Err fault.TooLong) = text.Malformed at
judged classes scope at (Err (fault.Malformed n)) = text.Malformed at
judged classes scope at (Err (fault.UnknownName n)) = text.Unknown at
judged classes scope at (Err fault.Memory) = text.Malformed at

-- What the text of an attribute is.
abbrev pub text_as : Vocabulary → Scope → Option Attribute → Text
text_as v scope None = text.Absent
text_as v scope (Some attribute) = judged v.classes scope attribute.at (reading_of v.names attribute.text)

-- `internal_node` names a node, or the internal pin that bears its name.
abbrev pub is_node_class : Class → Bool
is_node_class Shared = true
is_node_class Node = true
is_node_class _ = false

abbrev pub node_at : List Class → ℕ → Option ℕ → Text
node_at classes at None = text.Unknown at
node_at classes at (Some i) = if is_node_class (class_at classes i) then text.Reads (tree.Name i) at else text.Unknown at

abbrev pub node_text : Vocabulary → Attribute → Text
node_text v attribute = node_at v.classes attribute.at (number_of v.names attribute.text)

-- The offsets at which texts are wrong.
abbrev pub malformed_at : Text → List ℕ
malformed_at (text.Malformed at) = at ∷ []
malformed_at _ = []

abbrev pub unknown_at : Text → List ℕ
unknown_at (text.Unknown at) = at ∷ []
unknown_at _ = []

abbrev pub coupled_at : Text → List ℕ
coupled_at (text.Coupled at) = at ∷ []
coupled_at _ = []

-- the names that a text names, ascending
abbrev pub text_support : Text → List ℕ
text_support (text.Reads f at) = support_of f
text_support _ = []
