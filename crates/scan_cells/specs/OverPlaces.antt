-- The steps of a group and the values of an output, by points over the places of a comparison.
use Rattle.std.specs.Prelude.{◌≡◌, ℕ, List, map}
use Rattle.cell_machine.specs.declared.outputs.Source.{Source}
use Rattle.cell_machine.specs.declared.cells.Cell.{Cell}
use Rattle.scan_cells.specs.declared.point_steps.PointSteps.{PointSteps}
use Rattle.scan_cells.specs.declared.output_table.OutputTable.{OutputTable}
use Rattle.scan_cells.specs.Weights.{weight_of}

-- The steps are those of group g of a cell, whose support is this one as it stands among these places.
pub record AreSteps (cell : Cell) (g : ℕ) (places support : List Source) (steps : PointSteps) : Type 0 where
  pub of_cell : steps.table.cell.now ≡ cell
  pub of_group : steps.table.group ≡ g
  pub weigh : steps.numbering.weights ≡ map (weight_of places) support

-- The values are those of output i of a cell, whose support is this one as it stands among these places.
pub record AreValues (cell : Cell) (i : ℕ) (places support : List Source) (values : OutputTable) : Type 0 where
  pub of_cell : values.cell.now ≡ cell
  pub of_output : values.output ≡ i
  pub weigh : values.numbering.weights ≡ map (weight_of places) support
