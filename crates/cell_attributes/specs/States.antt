-- The states of a cell and their names (Liberty Reference Manual, `ff`, `latch` and `statetable` groups).
use Rattle.std.specs.Prelude.{ℕ, Bool, true, false, List, [], ◌∷◌, map, flat_map, codes, bytes_eq, Option, Some, None}
use Rattle.std.specs.Prelude.{if◌then◌else◌}
use Rattle.liberty_groups.specs.declared.tree.Value.{Value}
use Rattle.liberty_groups.specs.declared.tree.Group.{Group}
use Rattle.cell_machine.specs.declared.groups.Both.{Both}
use Rattle.cell_machine.specs.declared.groups.Both.TheVariants.{Low, High, Keep, Unknown}
use Rattle.liberty_groups.specs.Attributes.{Attribute, attribute_of}
use Rattle.cell_attributes.specs.Groups.{is_called, state_groups, names_in}

-- the two arguments of a group that has two
pub record Arguments : Type 0 where
  pub first : List ℕ
  pub second : List ℕ

abbrev pub two_of : List Value → Option Arguments
two_of (first ∷ second ∷ []) = Some (record { first = first.bytes; second = second.bytes })
two_of _ = None

abbrev pub arguments_of : Group → Option Arguments
arguments_of group = two_of group.arguments

-- A state: its name, and of an `ff` or `latch` the name of the second variable.
pub record StateName : Type 0 where
  pub first : List ℕ
  pub second : Option (List ℕ)

abbrev pub is_table : Group → Bool
is_table group = is_called (codes "statetable") group

abbrev pub variables : Arguments → StateName
variables arguments = record { first = arguments.first; second = Some arguments.second }

abbrev pub node_named : List ℕ → StateName
node_named name = record { first = name; second = None }

-- An `ff` or `latch` holds one state, whose two variables its arguments name. A `statetable` holds a state for each of
-- the nodes that its second argument names.
abbrev pub states_with : Bool → Option Arguments → List StateName
states_with table None = []
states_with true (Some arguments) = map node_named (names_in arguments.second)
states_with false (Some arguments) = variables arguments ∷ []

abbrev pub states_in : Group → List StateName
states_in group = states_with (is_table group) (arguments_of group)

-- The states of a cell are numbered in their order in it.
abbrev pub states_of : Group → List StateName
states_of cell = flat_map states_in (state_groups cell)

-- The words of `clear_preset_var1`. (Liberty Reference Manual, `clear_preset_var1`.)
abbrev pub both_named : List ℕ → Option Both
both_named text =
    if bytes_eq text (codes "L") then Some Low
    else (if bytes_eq text (codes "H") then Some High
    else (if bytes_eq text (codes "N") then Some Keep else (if bytes_eq text (codes "X") then Some Unknown else None)))

-- The second variable may not keep its value: it is no stored bit. (This project's rule.)
abbrev pub is_kept : Option Both → Bool
is_kept None = false
is_kept (Some Low) = false
is_kept (Some High) = false
is_kept (Some Keep) = true
is_kept (Some Unknown) = false

abbrev pub unless_kept : Option Both → Option Both
unless_kept both = if is_kept both then None else both

-- what an attribute gives where it is written; one that is not written counts as X (this project's rule)
abbrev pub both_with : (List ℕ → Option Both) → Option Attribute → Option Both
both_with named None = Some Unknown
both_with named (Some attribute) = named attribute.text

abbrev pub first_both : Group → Option Both
first_both group = both_with both_named (attribute_of group (codes "clear_preset_var1"))

abbrev pub second_both : Group → Option Both
second_both group = both_with (λ text. unless_kept (both_named text)) (attribute_of group (codes "clear_preset_var2"))
