-- The steps of a cell's groups at all points of the changes of the inputs that move them.
use Rattle.std.specs.Prelude.{◌≡◌, ◌≤◌, ℕ, suc, List, length, map, position, nat_eq, slice_get, Option, Some}
use Rattle.std.specs.Option.{ForSome, ForNone}
use Rattle.trit_cubes.specs.declared.trits.Trit.{Trit}
use Rattle.trit_cubes.specs.Sets.{AreValuesOf}
use Rattle.cell_machine.specs.declared.groups.StateGroup.{StateGroup}
use Rattle.cell_machine.specs.declared.changes.Change.{Change}
use Rattle.cell_machine.specs.declared.group_tables.InputStep.{InputStep}
use Rattle.cell_machine.specs.Names.{state_name}
use Rattle.cell_machine.specs.Inputs.{input_number}
use Rattle.cell_machine.specs.Machine.{without, edge_value}
use Rattle.cell_machine.specs.CellData.{CellData}
use Rattle.cell_machine.specs.CellTrace.{inputs_of, support_at, step_at, moved}

-- a change of the input with this number leaves the state of a group as it is, whatever the other inputs are
abbrev pub LeavesState : CellData → ℕ → ℕ → Type 0
LeavesState cell g input =
    (group : StateGroup) → slice_get cell.groups g ≡ Some group
    → (v : List Trit) (from : Trit) (c : Change) (s : Trit) → c.pin ≡ input
    → moved cell.pins (record { name = state_name (length cell.pins) g; group = group }) v from c s ≡ s

-- The step of a group at the changes of the input with this number: the input has the table's place in the support, the pins at
-- the others are the table's inputs, and there are the values of the step at all points, each at the number of its point: the
-- value before, the value after, the other inputs and the state.
pub record IsInputStep (cell : CellData) (g input : ℕ) (table : InputStep) : Type 0 where
  pub is_place : position (λ p. nat_eq (input_number cell.pins p) input) (support_at cell g) ≡ Some table.place
  pub few : length table.others ≤ 7
  pub others_are : table.others ≡ map (input_number cell.pins) (without table.place (support_at cell g))
  pub are_values : AreValuesOf (suc (suc (length (support_at cell g)))) (edge_value (step_at cell g) table.place) table.values

-- the table of an input whose changes may move the state; where there is none, they leave it
abbrev pub IsStep : CellData → ℕ → ℕ → Option InputStep → Type 0
IsStep cell g input step = ForNone step (LeavesState cell g input) × ForSome step (IsInputStep cell g input)

-- there is a step for each input
pub record AreChangeTables (cell : CellData) (g : ℕ) (steps : List (Option InputStep)) : Type 0 where
  pub one_each : length steps ≡ inputs_of cell
  pub are_steps : (input : ℕ) (step : Option InputStep) → slice_get steps input ≡ Some step → IsStep cell g input step

-- there are those of each group
pub record AreStepTables (cell : CellData) (tables : List (List (Option InputStep))) : Type 0 where
  pub one_each : length tables ≡ length cell.groups
  pub are_tables : (g : ℕ) (group : List (Option InputStep)) → slice_get tables g ≡ Some group → AreChangeTables cell g group
