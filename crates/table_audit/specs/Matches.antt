-- When a module matches a cell: its parts are the cell's, and its tables give the cell's values for all arguments.
use Rattle.cell_machine.specs.CellData.{CellData}
use Rattle.specify_blocks.specs.declared.model.VModule.{VModule}
use Rattle.module_shapes.specs.SameShape.{HasShape}
use Rattle.module_tables.specs.SameValues.{HasValues}

-- A module matches a cell.
pub record Matches (d : CellData) (m : VModule) : Type 0 where
  pub shape : HasShape d m
  pub values : HasValues d m
