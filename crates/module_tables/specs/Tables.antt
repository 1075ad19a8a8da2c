-- What the tables of a module and the functions of a cell give for the same arguments, and all arguments in the order in which
-- they are compared. (What a table gives: IEEE 1364-2005, clause 8. The arguments and their order are this project's rule.)
use Rattle.std.specs.Prelude.{ℕ, ◌+◌, Bool, true, false, not, List, [], ◌∷◌, length, map, flat_map, find, position, Option, Some}
use Rattle.std.specs.Prelude.{None, unwrap_or, slice_get, slice_set, slice_index_or, if◌then◌else◌}
use Rattle.std.specs.List.{range_with_len}
use Rattle.std.specs.Option.{option_map_or}
use Rattle.trit_cubes.specs.declared.trits.Trit.{Trit}
use Rattle.trit_cubes.specs.declared.trits.Trit.TheVariants.{Zero, One, Unknown}
use Rattle.trit_cubes.specs.Filling.{trit_of, same}
use Rattle.trit_cubes.specs.Resolution.{res}
use Rattle.trit_cubes.specs.Prime.{cubes_of}
use Rattle.bool_functions.specs.declared.tree.Node.{Node}
use Rattle.bool_functions.specs.Support.{support_of}
use Rattle.cell_machine.specs.Machine.{without, machine_step, forced}
use Rattle.cell_machine.specs.Outputs.{condition_at}
use Rattle.cell_machine.specs.CellData.{CellData}
use Rattle.cell_machine.specs.CellTrace.{support_at, step_at, sources_at, output_value_at}
use Rattle.udp_tables.specs.declared.table.Udp.{Udp}
use Rattle.udp_tables.specs.Primitive.{level_output}
use Rattle.udp_tables.specs.Sequential.{udp_next, noted}
use Rattle.udp_tables.specs.CellPrimitives.{has_notifier}
use Rattle.specify_blocks.specs.declared.model.VNet.{VNet}
use Rattle.specify_blocks.specs.declared.model.VNet.TheVariants as net
use Rattle.specify_blocks.specs.declared.model.Instance.{Instance}
use Rattle.specify_blocks.specs.declared.model.Instance.TheVariants as instance
use Rattle.specify_blocks.specs.declared.model.VModule.{VModule}
use Rattle.specify_blocks.specs.Nets.{same_net}
use Rattle.specify_blocks.specs.Generated.{pin_net}
use Rattle.module_tables.specs.declared.differences.AuditPart.{AuditPart}
use Rattle.module_tables.specs.declared.differences.AuditPart.TheVariants as part
use Rattle.module_tables.specs.declared.differences.Difference.{Difference}
use Rattle.module_terminals.specs.Terminals.{sequential_instances, driving, group_nets, condition_nets, output_nets}
use Rattle.module_terminals.specs.Feeding.{Gating, check_gating, path_gating, output_net}

-- The value of a net where the first nets have the values, and those of the inputs of an instance, in their order.
abbrev pub value_among : List VNet → List Trit → VNet → Trit
value_among nets values n = option_map_or (λ k. slice_index_or values k Unknown) (position (same_net n) nets) Unknown

abbrev pub arranged : List VNet → List Trit → List VNet → List Trit
arranged nets values inputs = map (value_among nets values) inputs

-- The next state of a primitive with these inputs at a change of one net from an old value, where these nets have these values
-- after it. The state stays where the net is none of the inputs. (IEEE 1364-2005, clause 8.)
abbrev pub next_at : Option ℕ → Udp → List Trit → Trit → Trit → Trit
next_at None udp values old s = s
next_at (Some k) udp values old s = udp_next udp.rows (slice_set values k old) values s

abbrev pub next_by : VModule → List VNet → List Trit → VNet → Trit → Trit → Instance → Trit
next_by m nets values changed old s (instance.Primitive number output inputs) =
    option_map_or (λ udp. next_at (position (same_net changed) inputs) udp (arranged nets values inputs) old s)
    (slice_get m.udps number) s
next_by m nets values changed old s (instance.Constant output one) = s

-- the next state of the instance that stands for group g
abbrev pub group_next : CellData → VModule → ℕ → List Trit → VNet → Trit → Trit → Trit
group_next d m g values changed old s =
    option_map_or (next_by m (group_nets d g) values changed old s) (slice_get (sequential_instances m) g) s

-- What an instance without a state drives, where these nets have these values.
abbrev pub value_by : VModule → List VNet → List Trit → Instance → Trit
value_by m nets values (instance.Primitive number output inputs) =
    option_map_or (λ (udp : Udp). level_output udp.rows (arranged nets values inputs)) (slice_get m.udps number) Unknown
value_by m nets values (instance.Constant output one) = trit_of one

-- the value of a net that such an instance drives
abbrev pub driven_value : VModule → List VNet → List Trit → VNet → Trit
driven_value m nets values n = option_map_or (value_by m nets values) (driving m n) Unknown

-- A change of the pin at place p of the support of group g, from an old value to that in the list: the next state by the cell,
-- and that by the module.
abbrev pub cell_step : CellData → ℕ → ℕ → Trit → List Trit → Trit → Trit
cell_step d g p old values s = machine_step (step_at d g) p old (slice_index_or values p Unknown) (without p values) s

-- the port of the pin at a place of a support
abbrev pub place_net : CellData → ℕ → ℕ → VNet
place_net d g p = pin_net d.pins (slice_index_or (support_at d g) p 0)

abbrev pub model_step : CellData → VModule → ℕ → ℕ → Trit → List Trit → Trit → Trit → Trit
model_step d m g p old values note s =
    group_next d m g (noted (has_notifier d) note values) (place_net d g p) old s

-- A change of the register of the checks from an old value to a new one: by the cell the value to which the pins force the state,
-- else X, and the next state by the module.
abbrev pub cell_forced : CellData → ℕ → List Trit → Trit
cell_forced d g values = forced (step_at d g) values

abbrev pub model_notified : CellData → VModule → ℕ → Trit → Trit → List Trit → Trit → Trit
model_notified d m g old note values s = group_next d m g (noted true note values) net.Notifier old s

-- A condition: by the cell the resolution of its function, and by the module the value of its wire.
abbrev pub cell_condition : Node → List Trit → Trit
cell_condition f values = res (condition_at (support_of f) f) values

abbrev pub model_condition : CellData → VModule → Gating → List Trit → Trit
model_condition d m u values = driven_value m (condition_nets d u.condition) values (net.Wire u.wire)

-- Output o: by the cell the resolution of its function, and by the module the value of its port.
abbrev pub cell_output : CellData → ℕ → List Trit → Trit
cell_output d o values = res (output_value_at d o) values

abbrev pub model_output : CellData → VModule → ℕ → List Trit → Trit
model_output d m o values = driven_value m (output_nets d m o) values (output_net d o)

-- the values in their order
abbrev pub all_trits : List Trit
all_trits = Zero ∷ One ∷ Unknown ∷ []

-- the values of the register of the checks, where there is one
abbrev pub notes : Bool → List (Option Trit)
notes false = None ∷ []
notes true = map (λ t. Some t) all_trits

-- the values from which the register changes, in their order, and those to which it does
abbrev pub notes_before : List Trit
notes_before = Unknown ∷ Zero ∷ One ∷ []

abbrev pub note_after : Trit → Trit
note_after Unknown = Zero
note_after Zero = One
note_after One = Zero

-- whether place p of a list has another value than this
abbrev pub changes_at : ℕ → Trit → List Trit → Bool
changes_at p old values = not (same old (slice_index_or values p Unknown))

-- A change of a pin of a group.
abbrev pub step_compared : CellData → VModule → ℕ → ℕ → Trit → List Trit → Trit → Option Trit → Difference
step_compared d m g p old values s note =
    record {
      part = part.State;
      number = g + 1;
      places = values;
      changed = Some p;
      old = Some old;
      state = Some s;
      notifier = note;
      of_cell = cell_step d g p old values s;
      of_model = model_step d m g p old values (unwrap_or note Unknown) s;
    }

-- All changes of pins of a group: by the place that changes, the value before, the values after, the state and the register.
-- Values that are those before are no change.
abbrev pub steps_by_note : CellData → VModule → ℕ → ℕ → Trit → List Trit → Trit → List Difference
steps_by_note d m g p old values s = map (step_compared d m g p old values s) (notes (has_notifier d))

abbrev pub steps_by_state : CellData → VModule → ℕ → ℕ → Trit → List Trit → List Difference
steps_by_state d m g p old values = flat_map (steps_by_note d m g p old values) all_trits

abbrev pub steps_where_changed : CellData → VModule → ℕ → ℕ → Trit → List Trit → List Difference
steps_where_changed d m g p old values = if changes_at p old values then steps_by_state d m g p old values else []

abbrev pub steps_by_list : CellData → VModule → ℕ → ℕ → Trit → List Difference
steps_by_list d m g p old = flat_map (steps_where_changed d m g p old) (cubes_of (length (support_at d g)))

abbrev pub steps_by_old : CellData → VModule → ℕ → ℕ → List Difference
steps_by_old d m g p = flat_map (steps_by_list d m g p) all_trits

abbrev pub steps_compared : CellData → VModule → ℕ → List Difference
steps_compared d m g = flat_map (steps_by_old d m g) (range_with_len 0 (length (support_at d g)))

-- A change of the register of the checks.
abbrev pub note_compared : CellData → VModule → ℕ → Trit → List Trit → Trit → Difference
note_compared d m g old values s =
    record {
      part = part.Notifier;
      number = g + 1;
      places = values;
      changed = None;
      old = Some old;
      state = Some s;
      notifier = Some (note_after old);
      of_cell = cell_forced d g values;
      of_model = model_notified d m g old (note_after old) values s;
    }

-- All changes of the register as group g sees them: by the change, the values of the pins and the state.
abbrev pub notes_by_list : CellData → VModule → ℕ → Trit → List Trit → List Difference
notes_by_list d m g old values = map (note_compared d m g old values) all_trits

abbrev pub notes_by_old : CellData → VModule → ℕ → Trit → List Difference
notes_by_old d m g old = flat_map (notes_by_list d m g old) (cubes_of (length (support_at d g)))

abbrev pub notes_compared : CellData → VModule → ℕ → List Difference
notes_compared d m g = flat_map (notes_by_old d m g) notes_before

-- A value that has no state: of the part with this number, for these values of its support.
abbrev pub value_compared : AuditPart → ℕ → (List Trit → Trit) → (List Trit → Trit) → List Trit → Difference
value_compared p number of_cell of_model values =
    record {
      part = p;
      number = number;
      places = values;
      changed = None;
      old = None;
      state = None;
      notifier = None;
      of_cell = of_cell values;
      of_model = of_model values;
    }

-- All values of a condition, where there is one, by those of its support.
abbrev pub conditions_compared : CellData → VModule → AuditPart → ℕ → Option Gating → List Difference
conditions_compared d m p number None = []
conditions_compared d m p number (Some u) =
    map (value_compared p number (cell_condition u.condition) (model_condition d m u))
    (cubes_of (length (support_of u.condition)))

-- All values of output o, by those of its support.
abbrev pub outputs_compared : CellData → VModule → ℕ → List Difference
outputs_compared d m o =
    map (value_compared part.Output (o + 1) (cell_output d o) (model_output d m o)) (cubes_of (length (sources_at d o)))

-- All values of the condition of check j, and of arc a.
abbrev pub checks_compared : CellData → VModule → ℕ → List Difference
checks_compared d m j = conditions_compared d m part.Check (j + 1) (check_gating d m j)

abbrev pub paths_compared : CellData → VModule → ℕ → List Difference
paths_compared d m a = conditions_compared d m part.Path (a + 1) (path_gating d m a)

-- how many of a part are compared, the arguments of one of them, and those of all of them in their order
abbrev pub compared_count : CellData → AuditPart → ℕ
compared_count d part.State = length d.groups
compared_count d part.Notifier = if has_notifier d then length d.groups else 0
compared_count d part.Check = length d.checks
compared_count d part.Path = length d.arcs
compared_count d part.Output = length d.outputs

abbrev pub compared_at : CellData → VModule → AuditPart → ℕ → List Difference
compared_at d m part.State k = steps_compared d m k
compared_at d m part.Notifier k = notes_compared d m k
compared_at d m part.Check k = checks_compared d m k
compared_at d m part.Path k = paths_compared d m k
compared_at d m part.Output k = outputs_compared d m k

abbrev pub part_compared : CellData → VModule → AuditPart → List Difference
part_compared d m p = flat_map (compared_at d m p) (range_with_len 0 (compared_count d p))

-- All arguments in the order in which they are compared: the states of all groups and what the register makes of them, the
-- conditions of checks and those of paths, and the outputs.
abbrev pub compared_parts : List AuditPart
compared_parts = part.State ∷ part.Notifier ∷ part.Check ∷ part.Path ∷ part.Output ∷ []

abbrev pub compared : CellData → VModule → List Difference
compared d m = flat_map (part_compared d m) compared_parts

-- the first with two values that are not the same, where there is one
abbrev pub is_unlike : Difference → Bool
is_unlike c = not (same c.of_cell c.of_model)

abbrev pub first_difference : List Difference → Option Difference
first_difference arguments = find is_unlike arguments
