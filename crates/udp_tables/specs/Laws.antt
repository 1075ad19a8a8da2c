-- Laws of generated rows, and of the primitives of a cell.
use Rattle.std.specs.Prelude.{◌≡◌, ◌≢◌, ℕ, ◌<◌, Bool, true, List, length, slice_index_or, slice_set, Contains}
use Rattle.trit_cubes.specs.declared.trits.Trit.{Trit}
use Rattle.trit_cubes.specs.declared.trits.Trit.TheVariants.{Unknown}
use Rattle.cell_machine.specs.Machine.{Step, without, machine_step, forced}
use Rattle.trit_cubes.specs.Resolution.{res}
use Rattle.cell_machine.specs.bool_functions.declared.tree.Node.{Node}
use Rattle.udp_tables.specs.declared.parts.Part.{Part}
use Rattle.udp_tables.specs.Primitive.{level_output}
use Rattle.udp_tables.specs.Sequential.{udp_next, noted, sequential_rows, compact_rows, IsSequential}
use Rattle.cell_machine.specs.CellData.{CellData}
use Rattle.udp_tables.specs.Conditions.{used_conditions, conditions_of, condition_place}
use Rattle.cell_machine.specs.CellTrace.{support_at, step_at}
use Rattle.udp_tables.specs.CellPrimitives.{has_notifier, group_primitive, part_primitive, part_places, part_value}

-- At each change of an input, to the value that it has among the inputs, the rows in plain form give the machine's step, in
-- every state and at every value of the notifier.
abbrev pub RowsAreMachine : Type 0
RowsAreMachine =
    (checks : Bool) (n : ℕ) (step : Step) (p : ℕ) (old : Trit) (inputs : List Trit) (note state : Trit)
    → length inputs ≡ n → p < n → old ≢ slice_index_or inputs p Unknown
    → udp_next (sequential_rows checks n step) (noted checks note (slice_set inputs p old)) (noted checks note inputs) state
    ≡ machine_step step p old (slice_index_or inputs p Unknown) (without p inputs) state

-- At each change of the notifier they give the value to which the inputs force the state, else x, in every state.
abbrev pub NotifierForces : Type 0
NotifierForces =
    (n : ℕ) (step : Step) (inputs : List Trit) (old new state : Trit)
    → length inputs ≡ n → old ≢ new
    → udp_next (sequential_rows true n step) (noted true old inputs) (noted true new inputs) state ≡ forced step inputs

-- The rows in compact form give the same next state at each change of an input.
abbrev pub FormsAgree : Type 0
FormsAgree =
    (checks : Bool) (n : ℕ) (step : Step) (p : ℕ) (old : Trit) (inputs : List Trit) (note state : Trit)
    → length inputs ≡ n → p < n → old ≢ slice_index_or inputs p Unknown
    → udp_next (compact_rows checks n step) (noted checks note (slice_set inputs p old)) (noted checks note inputs) state
    ≡ udp_next (sequential_rows checks n step) (noted checks note (slice_set inputs p old)) (noted checks note inputs) state

-- and at each change of the notifier
abbrev pub FormsAgreeAtNotifier : Type 0
FormsAgreeAtNotifier =
    (n : ℕ) (step : Step) (inputs : List Trit) (old new state : Trit)
    → length inputs ≡ n → old ≢ new
    → udp_next (compact_rows true n step) (noted true old inputs) (noted true new inputs) state
    ≡ udp_next (sequential_rows true n step) (noted true old inputs) (noted true new inputs) state

-- The primitive of an output or a condition gives the resolution of its value, for every list of trits.
abbrev pub PartsResolve : Type 0
PartsResolve =
    (cell : CellData) (p : Part) (inputs : List Trit)
    → length inputs ≡ part_places cell p → level_output (part_primitive cell p).rows inputs ≡ res (part_value cell p) inputs

-- The primitive of a group gives the machine's step at each change of a pin of its support, in every state and at every
-- value of the notifier.
abbrev pub GroupsAreMachines : Type 0
GroupsAreMachines =
    (cell : CellData) (i p : ℕ) (old : Trit) (inputs : List Trit) (note state : Trit)
    → length inputs ≡ length (support_at cell i) → p < length inputs → old ≢ slice_index_or inputs p Unknown
    → udp_next (group_primitive cell i).rows (noted (has_notifier cell) note (slice_set inputs p old))
    (noted (has_notifier cell) note inputs) state
    ≡ machine_step (step_at cell i) p old (slice_index_or inputs p Unknown) (without p inputs) state

-- In a cell with checks it gives the forced value, else x, at each change of the notifier.
abbrev pub GroupsAreForced : Type 0
GroupsAreForced =
    (cell : CellData) (i : ℕ) (inputs : List Trit) (old new state : Trit)
    → has_notifier cell ≡ true → length inputs ≡ length (support_at cell i) → old ≢ new
    → udp_next (group_primitive cell i).rows (noted true old inputs) (noted true new inputs) state
    ≡ forced (step_at cell i) inputs

-- The primitive of a group has an entry for each input in each row, of which at most one is a change.
abbrev pub GroupsAreSequential : Type 0
GroupsAreSequential = (cell : CellData) (i : ℕ) → IsSequential (group_primitive cell i)

-- Each condition that checks and arcs use has a number.
abbrev pub ConditionsAreNumbered : Type 0
ConditionsAreNumbered =
    (cell : CellData) (f : Node)
    → Contains (used_conditions cell) f
    → condition_place (conditions_of cell) f < length (conditions_of cell)
