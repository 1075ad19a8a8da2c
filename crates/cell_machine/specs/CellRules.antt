-- What holds of every cell: the rules on its pins, groups, outputs, checks and arcs, and its limits. Each rule is a
-- test, so that a reader of cells can establish it by itself.
use Rattle.std.specs.Prelude.{◌≡◌, ℕ, ◌<◌, ◌+◌, Bool, true, false, not, ◌&&◌, ◌||◌, List, [], ◌∷◌, ◌++◌, length, map, nat_eq}
use Rattle.std.specs.Prelude.{nat_lt, nat_le, Option, Some, None, slice_get, bytes_eq, flat_map, IsTrue, if◌then◌else◌}
use Rattle.std.specs.List.{list_all, list_any}
use Rattle.std.specs.Option.{option_map_or}
use Rattle.bool_functions.specs.declared.tree.Node.{Node}
use Rattle.bool_functions.specs.Tree.{names_of}
use Rattle.bool_functions.specs.Support.{support_of}
use Rattle.statetables.specs.declared.symbols.CurrentSymbol.{CurrentSymbol}
use Rattle.statetables.specs.declared.symbols.CurrentSymbol.TheVariants as current_symbol
use Rattle.statetables.specs.declared.table.TableRow.{TableRow}
use Rattle.statetables.specs.declared.table.StateTable.{StateTable}
use Rattle.cell_machine.specs.declared.pins.Direction.{Direction}
use Rattle.cell_machine.specs.declared.pins.Direction.TheVariants as direction
use Rattle.cell_machine.specs.declared.pins.Pin.{Pin}
use Rattle.cell_machine.specs.declared.groups.Both.{Both}
use Rattle.cell_machine.specs.declared.groups.Both.TheVariants as both
use Rattle.cell_machine.specs.declared.groups.GroupKind.{GroupKind}
use Rattle.cell_machine.specs.declared.groups.GroupKind.TheVariants as kind
use Rattle.cell_machine.specs.declared.groups.StateGroup.{StateGroup}
use Rattle.cell_machine.specs.declared.outputs.Source.{Source}
use Rattle.cell_machine.specs.declared.outputs.Source.TheVariants as source
use Rattle.cell_machine.specs.declared.outputs.OutputPin.{OutputPin}
use Rattle.cell_machine.specs.declared.checks.CheckKind.{CheckKind}
use Rattle.cell_machine.specs.declared.checks.CheckKind.TheVariants as check_kind
use Rattle.cell_machine.specs.declared.checks.Edge.{Edge}
use Rattle.cell_machine.specs.declared.checks.Edge.TheVariants as edge
use Rattle.cell_machine.specs.declared.checks.Event.{Event}
use Rattle.cell_machine.specs.declared.checks.Check.{Check}
use Rattle.cell_machine.specs.declared.arcs.Arc.{Arc}
use Rattle.cell_machine.specs.Names.{source_name, has, names_of_optional}

-- Limits (this project's): the longest time, limit or delay, in picoseconds.
abbrev pub longest_time : ℕ
longest_time = 999999999999999

-- each number is above the one before it
abbrev pub is_ascending : List ℕ → Bool
is_ascending [] = true
is_ascending (x ∷ []) = true
is_ascending (x ∷ y ∷ ys) = nat_lt x y && is_ascending (y ∷ ys)

-- no number is below the one before it
abbrev pub is_in_order : List ℕ → Bool
is_in_order [] = true
is_in_order (x ∷ []) = true
is_in_order (x ∷ y ∷ ys) = nat_le x y && is_in_order (y ∷ ys)

-- Names: 1 to 255 bytes of printable ASCII without the space.
abbrev pub is_name : List ℕ → Bool
is_name bytes = nat_lt 0 (length bytes) && nat_le (length bytes) 255 && list_all (λ b. nat_lt 32 b && nat_lt b 127) bytes

-- no name stands twice
abbrev pub are_distinct : List (List ℕ) → Bool
are_distinct [] = true
are_distinct (x ∷ xs) = not (list_any (bytes_eq x) xs) && are_distinct xs

-- the directions, and the pins that have them
abbrev pub is_input : Direction → Bool
is_input direction.Input = true
is_input _ = false

-- whether this is the number of an input pin
abbrev pub is_input_pin : List Pin → ℕ → Bool
is_input_pin pins p = option_map_or (λ (pin : Pin). is_input pin.direction) (slice_get pins p) false

abbrev pub is_output : Direction → Bool
is_output direction.Output = true
is_output _ = false

-- the numbers of the output pins, in order, where the first pin has the number k
abbrev pub output_pins_from : ℕ → List Pin → List ℕ
output_pins_from k [] = []
output_pins_from k (pin ∷ pins) =
    (if is_output pin.direction then k ∷ output_pins_from (k + 1) pins else output_pins_from (k + 1) pins)

-- whether this is the number of an output pin
abbrev pub is_output_pin : List Pin → ℕ → Bool
is_output_pin pins p = option_map_or (λ (pin : Pin). is_output pin.direction) (slice_get pins p) false

-- Pins: at most 64, with names that are distinct.
abbrev pub are_pins : List Pin → Bool
are_pins pins =
    nat_le (length pins) 64
    && (list_all (λ (pin : Pin). is_name pin.name) pins && are_distinct (map (λ (pin : Pin). pin.name) pins))

-- A group's support: 1 to 8 input pins, ascending.
abbrev pub is_support : List Pin → List ℕ → Bool
is_support pins support =
    nat_lt 0 (length support)
    && (nat_le (length support) 8 && (is_ascending support && list_all (is_input_pin pins) support))

-- the names of the texts that may not name the group's own variables; of a table the pins of its columns
abbrev pub control_names : GroupKind → List ℕ
control_names (kind.Ff k) = names_of k.clocked_on ++ (names_of_optional k.clear ++ names_of_optional k.preset)
control_names (kind.Latch k) = names_of_optional k.enable ++ (names_of_optional k.clear ++ names_of_optional k.preset)
control_names (kind.Table table node inputs) = inputs

-- the names of the text that may name the group's own variables
abbrev pub data_names : GroupKind → List ℕ
data_names (kind.Ff k) = names_of k.next_state
data_names (kind.Latch k) = names_of_optional k.data_in
data_names (kind.Table table node inputs) = []

-- the support holds exactly the pins that the texts name, and the data text names beside them the own variables alone
abbrev pub names_support : ℕ → StateGroup → Bool
names_support name group =
    list_all (has group.support) (control_names group.kind)
    && (list_all (λ i. has group.support i || (nat_eq i name || nat_eq i (name + 1))) (data_names group.kind)
    && list_all (has (control_names group.kind ++ data_names group.kind)) group.support)

-- the second variable may not keep its value
abbrev pub is_second : Both → Bool
is_second both.Keep = false
is_second _ = true

-- both are there or neither
abbrev pub both_or_neither : Option Node → Option Node → Bool
both_or_neither None None = true
both_or_neither (Some f) (Some g) = true
both_or_neither None (Some g) = false
both_or_neither (Some f) None = false

abbrev pub is_free : CurrentSymbol → Bool
is_free current_symbol.Any = true
is_free _ = false

-- a row has a symbol for each input and, in both other parts, for each node
abbrev pub has_widths : ℕ → ℕ → TableRow → Bool
has_widths inputs nodes row =
    nat_eq (length row.inputs) inputs && (nat_eq (length row.current) nodes && nat_eq (length row.next) nodes)

-- A table whose rows all have their widths. In one of several nodes no row looks at a present state.
abbrev pub is_table : StateTable → Bool
is_table table =
    list_all (has_widths table.inputs table.nodes) table.rows
    && (nat_le table.nodes 1 || list_all (λ (row : TableRow). list_all is_free row.current) table.rows)

abbrev pub is_kind : GroupKind → Bool
is_kind (kind.Ff k) = is_second k.both2
is_kind (kind.Latch k) = is_second k.both2 && both_or_neither k.data_in k.enable
is_kind (kind.Table table node inputs) = nat_lt node table.nodes && (nat_eq (length inputs) table.inputs && is_table table)

-- A group, whose state has this name.
abbrev pub is_group : List Pin → ℕ → StateGroup → Bool
is_group pins name group = is_support pins group.support && (names_support name group && is_kind group.kind)

-- the groups, where the state of the first one has this name
abbrev pub are_groups_from : List Pin → ℕ → List StateGroup → Bool
are_groups_from pins name [] = true
are_groups_from pins name (group ∷ groups) = is_group pins name group && are_groups_from pins (name + 2) groups

-- Groups: at most 16.
abbrev pub are_groups : List Pin → List StateGroup → Bool
are_groups pins groups = nat_le (length groups) 16 && are_groups_from pins (length pins) groups

-- the names of two functions, where both are there
abbrev pub names_of_both : Option Node → Option Node → List ℕ
names_of_both (Some f) (Some g) = names_of f ++ names_of g
names_of_both None None = []
names_of_both None (Some g) = []
names_of_both (Some f) None = []

-- what the second variable of a group stands for in a support, where the group's state has this name. A node has no
-- second variable.
abbrev pub second_names : ℕ → GroupKind → List ℕ
second_names name (kind.Ff k) = name ∷ names_of_both k.clear k.preset
second_names name (kind.Latch k) = name ∷ names_of_both k.clear k.preset
second_names name (kind.Table table node inputs) = (name + 1) ∷ []

-- what the name i stands for in a support, where it is the name of a variable, and the state of the first group has
-- this name; a pin stands for itself
abbrev pub names_behind : ℕ → List StateGroup → ℕ → List ℕ
names_behind name [] i = i ∷ []
names_behind name (group ∷ groups) i =
    (if nat_eq i (name + 1) then second_names name group.kind else names_behind (name + 2) groups i)

abbrev pub is_source : List Pin → List StateGroup → Source → Bool
is_source pins groups (source.Pin p) = is_input_pin pins p
is_source pins groups (source.State g) = nat_lt g (length groups)

-- An output's function and support: the support holds at most 10 sources, input pins ascending and then states
-- ascending, exactly those for which the written names stand.
abbrev pub is_output_of : List Pin → List StateGroup → OutputPin → Bool
is_output_of pins groups output =
    let held : List ℕ = map (source_name (length pins)) output.support in
    let written : List ℕ = flat_map (names_behind (length pins) groups) (names_of output.function) in
    nat_le (length held) 10
    && (list_all (is_source pins groups) output.support
    && (is_ascending held && (list_all (has held) written && list_all (has written) held)))

-- Outputs: one for each output pin, in order.
abbrev pub are_outputs : List Pin → List StateGroup → List OutputPin → Bool
are_outputs pins groups outputs =
    bytes_eq (map (λ (output : OutputPin). output.pin) outputs) (output_pins_from 0 pins)
    && list_all (is_output_of pins groups) outputs

-- A condition: it names 1 to 10 input pins, and none of these.
abbrev pub is_condition : List Pin → List ℕ → Option Node → Bool
is_condition pins apart None = true
is_condition pins apart (Some f) =
    nat_lt 0 (length (support_of f))
    && (nat_le (length (support_of f)) 10
    && list_all (λ i. is_input_pin pins i && not (has apart i)) (support_of f))

-- an edge of one kind
abbrev pub is_one_edge : Edge → Bool
is_one_edge edge.Any = false
is_one_edge edge.Rise = true
is_one_edge edge.Fall = true

abbrev pub is_any_edge : Edge → Bool
is_any_edge e = not (is_one_edge e)

-- opposite edges
abbrev pub are_opposite : Edge → Edge → Bool
are_opposite edge.Rise edge.Fall = true
are_opposite edge.Fall edge.Rise = true
are_opposite _ _ = false

-- Whether these may be the events of a check of this kind. (Liberty Reference Manual, timing_type and the attributes
-- min_pulse_width_high, min_pulse_width_low and min_period.)
abbrev pub are_events : CheckKind → Event → Event → Bool
are_events check_kind.Setup first second = is_any_edge first.edge && is_one_edge second.edge
are_events check_kind.Hold first second = is_one_edge first.edge && is_any_edge second.edge
are_events check_kind.Recovery first second = is_one_edge first.edge && is_one_edge second.edge
are_events check_kind.Removal first second = is_one_edge first.edge && is_one_edge second.edge
are_events check_kind.Width first second = nat_eq first.pin second.pin && are_opposite first.edge second.edge
are_events check_kind.Period first second =
    nat_eq first.pin second.pin && (is_any_edge first.edge && is_any_edge second.edge)

abbrev pub has_events : Check → CheckKind → Bool
has_events k kind = are_events kind k.first k.second

-- A check: events of input pins, a limit of 1 to the longest time, and a condition apart from the pins of its events.
abbrev pub is_check : List Pin → Check → Bool
is_check pins k =
    is_input_pin pins k.first.pin
    && (is_input_pin pins k.second.pin
    && (has_events k k.kind
    && (nat_lt 0 k.limit
    && (nat_le k.limit longest_time && is_condition pins (k.first.pin ∷ k.second.pin ∷ []) k.condition))))

-- Checks: at most 256.
abbrev pub are_checks : List Pin → List Check → Bool
are_checks pins checks = nat_le (length checks) 256 && list_all (is_check pins) checks

-- An arc: from an input pin to an output pin, with a condition apart from the pin where it starts.
abbrev pub is_arc : List Pin → Arc → Bool
is_arc pins arc =
    is_input_pin pins arc.from
    && (is_output_pin pins arc.to
    && (nat_le arc.rise longest_time
    && (nat_le arc.fall longest_time && is_condition pins (arc.from ∷ []) arc.condition)))

-- Arcs: at most 1,024, in the order of the pins where they end.
abbrev pub are_arcs : List Pin → List Arc → Bool
are_arcs pins arcs =
    nat_le (length arcs) 1024
    && (list_all (is_arc pins) arcs && is_in_order (map (λ (arc : Arc). arc.to) arcs))

-- What holds of every cell.
abbrev pub is_cell : List ℕ → List Pin → List StateGroup → List OutputPin → List Check → List Arc → Bool
is_cell name pins groups outputs checks arcs =
    is_name name
    && (are_pins pins
    && (are_groups pins groups && (are_outputs pins groups outputs && (are_checks pins checks && are_arcs pins arcs))))

-- Arcs between the same two pins have conditions that differ as trees, none of them written counting as one.
abbrev pub AreApart : List Arc → Type 0
AreApart arcs =
    (i j : ℕ) (arc other : Arc)
    → i < j → slice_get arcs i ≡ Some arc → slice_get arcs j ≡ Some other
    → arc.from ≡ other.from → arc.to ≡ other.to → arc.condition ≡ other.condition → ⊥

-- the same rules one by one
pub record HoldsRules (name : List ℕ) (pins : List Pin) (groups : List StateGroup) (outputs : List OutputPin)
    (checks : List Check) (arcs : List Arc) : Type 0 where
  pub named : IsTrue (is_name name)
  pub of_pins : IsTrue (are_pins pins)
  pub of_groups : IsTrue (are_groups pins groups)
  pub of_outputs : IsTrue (are_outputs pins groups outputs)
  pub of_checks : IsTrue (are_checks pins checks)
  pub of_arcs : IsTrue (are_arcs pins arcs)
