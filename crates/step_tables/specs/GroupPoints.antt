-- What a flip-flop or a latch does at changes between points of its support.
use Rattle.std.specs.Prelude.{◌≡◌, ℕ, ◌<◌, ◌^◌, Bool, false, true, not, ◌&&◌, List, length, map, slice_get, Some}
use Rattle.std.specs.List.{range_with_len}
use Rattle.std.specs.Option.{option_map_or}
use Rattle.trit_cubes.specs.Sets.{point_of}
use Rattle.bool_functions.specs.Tree.{value_of}
use Rattle.cell_machine.specs.declared.groups.GroupKind.{GroupKind}
use Rattle.cell_machine.specs.declared.groups.GroupKind.TheVariants as kind
use Rattle.cell_machine.specs.declared.groups.StateGroup.{StateGroup}
use Rattle.cell_machine.specs.CellData.{CellData}
use Rattle.cell_machine.specs.CellTrace.{step_at}
use Rattle.cell_machine.specs.Values.{no_values, written}
use Rattle.step_tables.specs.declared.group_points.StateSteps.{StateSteps}
use Rattle.step_tables.specs.declared.group_points.GroupPoint.{GroupPoint}

-- The value of a group's clock where the names have these values (Liberty Reference Manual, `clocked_on` of an `ff` group). A
-- latch and a node of a state table have no clock, and 0 stands for it.
abbrev pub clock_of : GroupKind → List Bool → Bool
clock_of (kind.Ff k) values = value_of values k.clocked_on
clock_of (kind.Latch k) values = false
clock_of (kind.Table table node inputs) values = false

-- the value of the clock of group i at a point of its support
abbrev pub clock_at : CellData → ℕ → List Bool → Bool
clock_at cell i point =
    option_map_or (λ (group : StateGroup). clock_of group.kind (written no_values group.support point))
    (slice_get cell.groups i) false

-- whether the clock of group i rises at a change
abbrev pub rises : CellData → ℕ → List Bool → List Bool → Bool
rises cell i before after = not (clock_at cell i before) && clock_at cell i after

-- A group of which the inputs before a change say no more than whether its clock rises.
pub record MovesByClock (cell : CellData) (i : ℕ) : Type 0 where
  pub same_steps :
      (before other after : List Bool) (s : Bool) → rises cell i before after ≡ rises cell i other after
      → step_at cell i before after s ≡ step_at cell i other after s

-- the steps of group i at a change, from both states
abbrev pub steps_between : CellData → ℕ → List Bool → List Bool → StateSteps
steps_between cell i before after = record { «zero» = step_at cell i before after false; one = step_at cell i before after true }

-- the same between the points with these numbers, of so many places
abbrev pub numbered_steps : CellData → ℕ → ℕ → ℕ → ℕ → StateSteps
numbered_steps cell i places before after = steps_between cell i (point_of places before) (point_of places after)

-- What group i does at changes to a point: where its clock does not rise it does what it does where nothing changes, where it
-- rises what it does from a point at which the clock is 0.
abbrev pub point_at : CellData → ℕ → List Bool → List Bool → GroupPoint
point_at cell i low point = record {
  clock = clock_at cell i point;
  held = steps_between cell i point point;
  risen = steps_between cell i low point;
}

-- the same at all points of so many places, in the order of their numbers
abbrev pub points_from : CellData → ℕ → ℕ → ℕ → List GroupPoint
points_from cell i places low =
    map (λ k. point_at cell i (point_of places low) (point_of places k)) (range_with_len 0 (2 ^ places))

-- An entry for each point of so many places, in the order of their numbers, tells the clock of group i there, its steps from each
-- point from which the clock does not rise, and its steps from each one from which it does.
pub record ArePoints (cell : CellData) (i places : ℕ) (points : List GroupPoint) : Type 0 where
  pub all : length points ≡ 2 ^ places
  pub clocks :
      (k : ℕ) (entry : GroupPoint) → slice_get points k ≡ Some entry → entry.clock ≡ clock_at cell i (point_of places k)
  pub held :
      (k before : ℕ) (entry : GroupPoint) → slice_get points k ≡ Some entry
      → rises cell i (point_of places before) (point_of places k) ≡ false
      → entry.held ≡ steps_between cell i (point_of places before) (point_of places k)
  pub risen :
      (k before : ℕ) (entry : GroupPoint) → slice_get points k ≡ Some entry → before < 2 ^ places
      → rises cell i (point_of places before) (point_of places k) ≡ true
      → entry.risen ≡ steps_between cell i (point_of places before) (point_of places k)
