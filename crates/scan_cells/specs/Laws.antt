-- What it says that a scan cell and its test view agree: laws over the definitions.
use Rattle.std.specs.Prelude.{◌≡◌, ◌≢◌, ◌↔◌, ℕ, ◌^◌, ◌<◌, Bool, true, not, length, Some, nat_eq, if◌then◌else◌}
use Rattle.cell_machine.specs.CellData.{CellData}
use Rattle.scan_cells.specs.declared.answers.Agreement.TheVariants.{Same}
use Rattle.scan_cells.specs.declared.answers.Difference.{Difference}
use Rattle.scan_cells.specs.Views.{ViewData}
use Rattle.scan_cells.specs.Places.{is_set, changed_at, is_inactive}
use Rattle.scan_cells.specs.Comparison.{step_places, cell_step, view_step, output_in_view, output_pin, output_places, cell_output}
use Rattle.scan_cells.specs.Comparison.{view_output, first_difference, agreement}

-- With the scan enable inactive before and after, the steps of the groups are equal: at every point after, from the same
-- point and from every point that differs from it in one place, and from both states. The outputs are equal at all points
-- at which it is inactive.
pub record AllAgree (cell : CellData) (view : ViewData) : Type 0 where
  pub unchanged :
      (g after : ℕ) (s : Bool) → g < length cell.groups → after < 2 ^ length (step_places cell view g)
      → is_inactive view (step_places cell view g) after ≡ true
      → cell_step cell view g after after s ≡ view_step cell view g after after s
  pub changed :
      (g after k : ℕ) (s : Bool) → g < length cell.groups → after < 2 ^ length (step_places cell view g)
      → k < length (step_places cell view g)
      → is_inactive view (step_places cell view g) after ≡ true
      → is_inactive view (step_places cell view g) (changed_at after k) ≡ true
      → cell_step cell view g (changed_at after k) after s ≡ view_step cell view g (changed_at after k) after s
  pub outputs :
      (i j point : ℕ) → i < length cell.outputs → output_in_view view (output_pin cell i) ≡ Some j
      → point < 2 ^ length (output_places cell view i j)
      → is_inactive view (output_places cell view i j) point ≡ true
      → cell_output cell view i j point ≡ view_output cell view i j point

-- The answer is Same exactly where they agree everywhere.
abbrev pub SameIsAgreement : Type 0
SameIsAgreement = (cell : CellData) (view : ViewData) → (agreement cell view ≡ Same) ↔ AllAgree cell view

-- The two values of a difference are not the same.
abbrev pub DifferencesDiffer : Type 0
DifferencesDiffer =
    (cell : CellData) (view : ViewData) (d : Difference) → first_difference cell view ≡ Some d → d.of_cell ≢ d.of_view

-- A point with a changed place differs there, and nowhere else.
abbrev pub ChangesOnePlace : Type 0
ChangesOnePlace = (point k j : ℕ) → is_set j (changed_at point k) ≡ (if nat_eq j k then not (is_set j point) else is_set j point)
