-- The values of a cell's outputs at all points of their supports.
use Rattle.std.specs.Prelude.{◌≡◌, ℕ, List, length, slice_get, Some}
use Rattle.trit_cubes.specs.declared.trits.Trit.{Trit}
use Rattle.trit_cubes.specs.Sets.{AreValuesOf}
use Rattle.cell_machine.specs.CellData.{CellData}
use Rattle.cell_machine.specs.CellTrace.{sources_at, output_value_at}

-- for each output there are the values of its function, each at the number of its point
pub record AreOutputTables (cell : CellData) (tables : List (List Trit)) : Type 0 where
  pub one_each : length tables ≡ length cell.outputs
  pub are_values :
      (i : ℕ) (values : List Trit) → slice_get tables i ≡ Some values
      → AreValuesOf (length (sources_at cell i)) (output_value_at cell i) values
