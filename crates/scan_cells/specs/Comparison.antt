-- How a scan cell and its test view are compared: state by state and output by output, at all points at which the scan
-- enable is inactive. (This project's rule; Liberty Reference Manual, `test_cell` group: the test cell says what the cell
-- does out of test.)
use Rattle.std.specs.Prelude.{ℕ, ◌+◌, ◌^◌, Bool, true, false, List, [], ◌∷◌, length, map, nat_eq, position, slice_get}
use Rattle.std.specs.Prelude.{slice_index_or, Option, Some, None, if◌then◌else◌}
use Rattle.std.specs.List.{range_with_len}
use Rattle.std.specs.Option.{option_map_or}
use Rattle.trit_cubes.specs.declared.trits.Trit.{Trit}
use Rattle.trit_cubes.specs.Filling.{same}
use Rattle.cell_machine.specs.declared.outputs.Source.{Source}
use Rattle.cell_machine.specs.declared.outputs.OutputPin.{OutputPin}
use Rattle.cell_machine.specs.CellData.{CellData}
use Rattle.cell_machine.specs.CellTrace.{step_at, support_at, sources_at, output_value_at}
use Rattle.step_tables.specs.declared.group_points.StateSteps.{StateSteps}
use Rattle.scan_cells.specs.declared.answers.Agreement.{Agreement}
use Rattle.scan_cells.specs.declared.answers.Agreement.TheVariants.{Same, Differs}
use Rattle.scan_cells.specs.declared.answers.Difference.{Difference}
use Rattle.scan_cells.specs.Views.{ViewData}
use Rattle.scan_cells.specs.Places.{pin_sources, in_cell, places_of, values_at, changed_at, is_inactive}

-- the first that there is of two
abbrev pub or_else : {A : Type 0} → Option A → Option A → Option A
or_else None later = later
or_else (Some x) later = Some x

-- the first that there is over a list
abbrev pub first_some : {A B : Type 0} → (A → Option B) → List A → Option B
first_some f [] = None
first_some f (x ∷ xs) = or_else (f x) (first_some f xs)

-- A difference is one between two values that are not the same.
abbrev pub difference : ℕ → ℕ → ℕ → Bool → Trit → Trit → Option Difference
difference part before after state a b =
    if same a b then None
    else Some (record { part = part; before = before; after = after; state = state; of_cell = a; of_view = b })

-- Group g of the cell has the part g + 1. Its support, that of the view's group, and the places of their points.
abbrev pub cell_support : CellData → ℕ → List Source
cell_support cell g = pin_sources (support_at cell g)

abbrev pub view_support : ViewData → ℕ → List Source
view_support view g = map (in_cell view) (pin_sources (support_at view.cell g))

abbrev pub step_places : CellData → ViewData → ℕ → List Source
step_places cell view g = places_of cell (cell_support cell g) (view_support view g)

-- the steps of the two groups at a change of the points from `before` to `after`, from one state
unfoldable pub cell_step : CellData → ViewData → ℕ → ℕ → ℕ → Bool → Trit
cell_step cell view g before after s =
    step_at cell g (values_at (step_places cell view g) (cell_support cell g) before)
    (values_at (step_places cell view g) (cell_support cell g) after) s

unfoldable pub view_step : CellData → ViewData → ℕ → ℕ → ℕ → Bool → Trit
view_step cell view g before after s =
    step_at view.cell g (values_at (step_places cell view g) (view_support view g) before)
    (values_at (step_places cell view g) (view_support view g) after) s

-- the same from both states
abbrev pub cell_steps : CellData → ViewData → ℕ → ℕ → ℕ → StateSteps
cell_steps cell view g before after =
    record { «zero» = cell_step cell view g before after false; one = cell_step cell view g before after true }

abbrev pub view_steps : CellData → ViewData → ℕ → ℕ → ℕ → StateSteps
view_steps cell view g before after =
    record { «zero» = view_step cell view g before after false; one = view_step cell view g before after true }

-- the difference of the steps
abbrev pub step_difference : CellData → ViewData → ℕ → ℕ → ℕ → Bool → Option Difference
step_difference cell view g before after s =
    difference (g + 1) before after s (cell_step cell view g before after s) (view_step cell view g before after s)

-- State 0 comes before state 1.
abbrev pub state_difference : CellData → ViewData → ℕ → ℕ → ℕ → Option Difference
state_difference cell view g before after =
    or_else (step_difference cell view g before after false) (step_difference cell view g before after true)

-- A change from a point at which the enable is active is passed over.
abbrev pub change_difference : CellData → ViewData → ℕ → ℕ → ℕ → Option Difference
change_difference cell view g after before =
    if is_inactive view (step_places cell view g) before then state_difference cell view g before after else None

-- The unchanged point comes first, then those with one changed place, in the order of the places. A point at which the
-- enable is active is passed over.
abbrev pub after_difference : CellData → ViewData → ℕ → ℕ → Option Difference
after_difference cell view g after =
    if is_inactive view (step_places cell view g) after
    then
    or_else (change_difference cell view g after after)
    (first_some (λ k. change_difference cell view g after (changed_at after k))
    (range_with_len 0 (length (step_places cell view g))))
    else None

-- The points come in the order of their numbers.
abbrev pub group_difference : CellData → ViewData → ℕ → Option Difference
group_difference cell view g =
    first_some (after_difference cell view g) (range_with_len 0 (2 ^ length (step_places cell view g)))

-- Outputs are compared by name, in the cell's order: the view's output on the pin with this number in the cell.
abbrev pub is_on_pin : ViewData → ℕ → OutputPin → Bool
is_on_pin view pin output = nat_eq (slice_index_or view.pins output.pin 0) pin

abbrev pub output_in_view : ViewData → ℕ → Option ℕ
output_in_view view pin = position (is_on_pin view pin) view.cell.outputs

-- the number of the pin of output i
abbrev pub output_pin : CellData → ℕ → ℕ
output_pin cell i = option_map_or (λ (output : OutputPin). output.pin) (slice_get cell.outputs i) 0

-- The places of output i of the cell and output j of the view.
abbrev pub output_support : ViewData → ℕ → List Source
output_support view j = map (in_cell view) (sources_at view.cell j)

abbrev pub output_places : CellData → ViewData → ℕ → ℕ → List Source
output_places cell view i j = places_of cell (sources_at cell i) (output_support view j)

-- the values of both outputs at a point
unfoldable pub cell_output : CellData → ViewData → ℕ → ℕ → ℕ → Trit
cell_output cell view i j point = output_value_at cell i (values_at (output_places cell view i j) (sources_at cell i) point)

unfoldable pub view_output : CellData → ViewData → ℕ → ℕ → ℕ → Trit
view_output cell view i j point =
    output_value_at view.cell j (values_at (output_places cell view i j) (output_support view j) point)

-- The outputs come after the groups. Before and after are the same point, and the state is told as 0.
abbrev pub point_difference : CellData → ViewData → ℕ → ℕ → ℕ → Option Difference
point_difference cell view i j point =
    if is_inactive view (output_places cell view i j) point
    then difference (length cell.groups + i + 1) point point false (cell_output cell view i j point)
    (view_output cell view i j point)
    else None

abbrev pub pair_difference : CellData → ViewData → ℕ → ℕ → Option Difference
pair_difference cell view i j =
    first_some (point_difference cell view i j) (range_with_len 0 (2 ^ length (output_places cell view i j)))

abbrev pub output_difference : CellData → ViewData → ℕ → Option Difference
output_difference cell view i = option_map_or (pair_difference cell view i) (output_in_view view (output_pin cell i)) None

-- The first difference of a cell and its view: the groups in order, then the outputs in order.
abbrev pub first_difference : CellData → ViewData → Option Difference
first_difference cell view =
    or_else (first_some (group_difference cell view) (range_with_len 0 (length cell.groups)))
    (first_some (output_difference cell view) (range_with_len 0 (length cell.outputs)))

-- what the comparison answers
abbrev pub answered : Option Difference → Agreement
answered None = Same
answered (Some d) = Differs d.part d.before d.after d.state d.of_cell d.of_view

abbrev pub agreement : CellData → ViewData → Agreement
agreement cell view = answered (first_difference cell view)
