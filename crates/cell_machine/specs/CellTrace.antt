-- The machine of a cell: its states, its outputs, its reports and its delays after each history of its inputs.
use Rattle.std.specs.Prelude.{ℕ, ◌+◌, Bool, true, false, not, ◌&&◌, ◌||◌, List, [], ◌∷◌, length, map, filter, count_by, nat_eq}
use Rattle.std.specs.Prelude.{Option, Some, None, position, slice_get, slice_index_or, if◌then◌else◌}
use Rattle.std.specs.List.{list_all}
use Rattle.std.specs.Option.{option_map_or}
use Rattle.cell_machine.specs.Names.{state_name}
use Rattle.trit_cubes.specs.declared.trits.Trit.{Trit}
use Rattle.trit_cubes.specs.declared.trits.Trit.TheVariants.{Unknown}
use Rattle.trit_cubes.specs.Filling.{same}
use Rattle.trit_cubes.specs.Resolution.{res}
use Rattle.bool_functions.specs.declared.tree.Node.{Node}
use Rattle.cell_machine.specs.declared.pins.Pin.{Pin}
use Rattle.cell_machine.specs.declared.groups.StateGroup.{StateGroup}
use Rattle.cell_machine.specs.declared.outputs.Source.{Source}
use Rattle.cell_machine.specs.declared.outputs.Source.TheVariants as source
use Rattle.cell_machine.specs.declared.outputs.OutputPin.{OutputPin}
use Rattle.cell_machine.specs.declared.checks.Event.{Event}
use Rattle.cell_machine.specs.declared.checks.Check.{Check}
use Rattle.cell_machine.specs.declared.arcs.Arc.{Arc}
use Rattle.cell_machine.specs.declared.changes.Change.{Change}
use Rattle.cell_machine.specs.CellData.{CellData}
use Rattle.bool_functions.specs.Support.{support_of}
use Rattle.cell_machine.specs.Inputs.{is_input_at, input_number, pin_value, pin_values}
use Rattle.cell_machine.specs.History.{inputs_after, value_before, is_event}
use Rattle.cell_machine.specs.Report.{InputCheck, reports, any_true}
use Rattle.cell_machine.specs.Machine.{Step, machine_step, without, forced}
use Rattle.cell_machine.specs.Step.{group_step}
use Rattle.cell_machine.specs.Outputs.{output_at, condition_at, is_one, is_zero}
use Rattle.cell_machine.specs.Delay.{Path, least_delay}
use Rattle.cell_machine.specs.Lines.{Line, shown_line, trace, Machine, machine_by}

-- how many inputs a cell has
abbrev pub inputs_of : CellData → ℕ
inputs_of cell = count_by is_input_at cell.pins

-- The value of a condition at values of the inputs: its resolution over the pins that it names.
abbrev pub condition_value : List Pin → List Trit → Node → Trit
condition_value pins v f =
    res (condition_at (support_of f) f) (pin_values pins v (support_of f))

-- the names of a condition, where there is one
abbrev pub condition_names : Option Node → List ℕ
condition_names None = []
condition_names (Some f) = support_of f

-- the names of the conditions of a cell's checks and of its arcs
abbrev pub check_names : CellData → List (List ℕ)
check_names cell = map (λ (k : Check). condition_names k.condition) cell.checks

abbrev pub arc_names : CellData → List (List ℕ)
arc_names cell = map (λ (arc : Arc). condition_names arc.condition) cell.arcs

-- whether a check's condition is 1, or there is none
abbrev pub condition_holds : List Pin → List Trit → Option Node → Bool
condition_holds pins v None = true
condition_holds pins v (Some f) = is_one (condition_value pins v f)

abbrev pub input_event : List Pin → Event → Event
input_event pins e = record { pin = input_number pins e.pin; edge = e.edge }

-- a check of a cell over the numbers of its inputs
abbrev pub input_check : List Pin → Check → InputCheck
input_check pins k =
    record {
      kind = k.kind;
      first = input_event pins k.first;
      second = input_event pins k.second;
      limit = k.limit;
      holds = λ v. condition_holds pins v k.condition;
    }

abbrev pub input_checks : CellData → List InputCheck
input_checks cell = map (input_check cell.pins) cell.checks

-- whether each check reports at the newest change
abbrev pub reports_of : CellData → List Change → List Bool
reports_of cell h = reports (inputs_of cell) (input_checks cell) h

-- a group and the name of its state
pub record NamedGroup : Type 0 where
  pub name : ℕ
  pub group : StateGroup

-- the groups with the names of their states, where the first one has this name
abbrev pub named_from : ℕ → List StateGroup → List NamedGroup
named_from name [] = []
named_from name (group ∷ groups) = record { name = name; group = group } ∷ named_from (name + 2) groups

abbrev pub named_groups : CellData → List NamedGroup
named_groups cell = named_from (length cell.pins) cell.groups

abbrev pub step_of : NamedGroup → Step
step_of g = group_step g.name g.group

-- the support of group i, none where there is no such group
abbrev pub support_at : CellData → ℕ → List ℕ
support_at cell i = option_map_or (λ (group : StateGroup). group.support) (slice_get cell.groups i) []

-- the step of group i over points of its support, X where there is no such group
abbrev pub step_at : CellData → ℕ → Step
step_at cell i before after s =
    option_map_or (λ (group : StateGroup). group_step (state_name (length cell.pins) i) group before after s)
    (slice_get cell.groups i) Unknown

-- the place of a changed input in a support, where it is there
abbrev pub place_in : List Pin → List ℕ → Change → Option ℕ
place_in pins support c = position (λ p. nat_eq (input_number pins p) c.pin) support

-- A group's next state at a change of an input at this place of its support: the machine step. Where the input is not
-- in the support, the state stays.
abbrev pub moved_at : Option ℕ → NamedGroup → List Trit → Trit → Trit → Trit → Trit
moved_at None g values a b s = s
moved_at (Some p) g values a b s = machine_step (step_of g) p a b (without p values) s

-- A group's next state at an event, where no check reports. The inputs after the event are v, and the changed input had
-- the value a.
abbrev pub moved : List Pin → NamedGroup → List Trit → Trit → Change → Trit → Trit
moved pins g v a c s = moved_at (place_in pins g.group.support c) g (pin_values pins v g.group.support) a c.to s

-- The state where some check reports at an event: the value to which the inputs after it force it, else X (this
-- project's rule for a violation).
abbrev pub violated : List Pin → NamedGroup → List Trit → Trit
violated pins g v = forced (step_of g) (pin_values pins v g.group.support)

-- the same, by whether some check reports
abbrev pub state_step : Bool → List Pin → NamedGroup → List Trit → Trit → Change → Trit → Trit
state_step true pins g v a c s = violated pins g v
state_step false pins g v a c s = moved pins g v a c s

-- The state of a group after a history. It begins at X.
abbrev pub state_after : CellData → List Change → NamedGroup → Trit
state_after cell [] g = Unknown
state_after cell (c ∷ h) g =
    (if is_event (inputs_after (inputs_of cell) h) c
    then
    state_step (any_true (reports_of cell (c ∷ h))) cell.pins g (inputs_after (inputs_of cell) (c ∷ h))
    (value_before (inputs_after (inputs_of cell) h) c) c (state_after cell h g)
    else state_after cell h g)

-- the states of all groups after a history
abbrev pub states_after : CellData → List Change → List Trit
states_after cell h = map (state_after cell h) (named_groups cell)

-- the value of a source, of the values of the inputs and the states
abbrev pub source_value : List Pin → List Trit → List Trit → Source → Trit
source_value pins v states (source.Pin p) = pin_value pins v p
source_value pins v states (source.State g) = slice_index_or states g Unknown

-- the value of an output, of the values of the inputs and the states
abbrev pub output_value : List Pin → List StateGroup → List Trit → List Trit → OutputPin → Trit
output_value pins groups v states output =
    res (output_at (length pins) groups output) (map (source_value pins v states) output.support)

-- the support of output i, none where there is no such output
abbrev pub sources_at : CellData → ℕ → List Source
sources_at cell i = option_map_or (λ (output : OutputPin). output.support) (slice_get cell.outputs i) []

-- the value of output i at a point of its support, X where there is no such output
abbrev pub output_value_at : CellData → ℕ → List Bool → Trit
output_value_at cell i point =
    option_map_or (λ (output : OutputPin). output_at (length cell.pins) cell.groups output point)
    (slice_get cell.outputs i) Unknown

abbrev pub output_after : CellData → List Change → OutputPin → Trit
output_after cell h output =
    output_value cell.pins cell.groups (inputs_after (inputs_of cell) h) (states_after cell h) output

-- whether two arcs have the same two pins
abbrev pub same_pins : Arc → Arc → Bool
same_pins arc other = nat_eq arc.from other.from && nat_eq arc.to other.to

-- whether an arc has no condition or one that is 0
abbrev pub is_off : List Pin → List Trit → Option Node → Bool
is_off pins v None = true
is_off pins v (Some f) = is_zero (condition_value pins v f)

-- whether another arc leaves an arc without condition active: it has other pins, or its condition is 0
abbrev pub is_quiet : List Pin → List Trit → Arc → Arc → Bool
is_quiet pins v arc other = not (same_pins arc other) || is_off pins v other.condition

-- Whether an arc is active: one with a condition where that is not 0; one without where the conditions of all other
-- arcs of its two pins are 0 (IEEE 1364-2005, clause 14.2.4.4: ifnone; this project's rule for unknowns).
abbrev pub is_active : List Pin → List Arc → List Trit → Arc → Option Node → Bool
is_active pins arcs v arc None = list_all (is_quiet pins v arc) arcs
is_active pins arcs v arc (Some f) = not (is_zero (condition_value pins v f))

-- an arc as a path, at values of the inputs
abbrev pub path_of : List Pin → List Arc → List Trit → Arc → Path
path_of pins arcs v arc =
    record { active = is_active pins arcs v arc arc.condition; rise = arc.rise; fall = arc.fall }

-- whether an arc goes from an input to an output pin
abbrev pub is_between : List Pin → ℕ → ℕ → Arc → Bool
is_between pins input output arc = nat_eq (input_number pins arc.from) input && nat_eq arc.to output

-- the arcs from an input to an output pin, as paths at values of the inputs
abbrev pub paths_between : List Pin → List Arc → List Trit → ℕ → ℕ → List Path
paths_between pins arcs v input output = map (path_of pins arcs v) (filter (is_between pins input output) arcs)

-- the delay of an output that goes from a to b at a change, where it does change; v are the inputs after
abbrev pub delay_at : List Pin → List Arc → List Trit → Change → OutputPin → Trit → Trit → Option ℕ
delay_at pins arcs v c output a b =
    (if same a b then None else Some (least_delay a b (paths_between pins arcs v c.pin output.pin)))

-- the delay of an output at the newest change
abbrev pub delay_after : CellData → List Change → OutputPin → Option ℕ
delay_after cell [] output = None
delay_after cell (c ∷ h) output =
    delay_at cell.pins cell.arcs (inputs_after (inputs_of cell) (c ∷ h)) c output
    (output_after cell h output) (output_after cell (c ∷ h) output)

-- What a cell shows after a history of its inputs.
abbrev pub cell_line : CellData → List Change → Line
cell_line cell = shown_line cell.outputs (output_after cell) (delay_after cell) (reports_of cell)

-- The trace of a cell on changes of its inputs, the oldest first.
abbrev pub cell_trace : CellData → List Change → List Line
cell_trace cell = trace (cell_line cell)

-- the cell as what a simulator runs
abbrev pub cell_machine_of : CellData → Machine
cell_machine_of cell = machine_by (inputs_of cell) (length cell.checks) cell.outputs (cell_line cell)
