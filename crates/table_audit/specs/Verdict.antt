-- What the comparison of a module with a cell answers.
use Rattle.std.specs.Prelude.{Option, Some, None}
use Rattle.cell_machine.specs.CellData.{CellData}
use Rattle.specify_blocks.specs.declared.model.VModule.{VModule}
use Rattle.module_tables.specs.declared.differences.Difference.{Difference}
use Rattle.table_audit.specs.declared.verdicts.Verdict.{Verdict}
use Rattle.table_audit.specs.declared.verdicts.Verdict.TheVariants.{Same, Shape, Differs}
use Rattle.module_shapes.specs.declared.shape.ShapeTest.{ShapeTest}
use Rattle.module_shapes.specs.Shape.{shape_tests, first_amiss}
use Rattle.module_tables.specs.Tables.{compared, first_difference}

-- by the first difference of the tables
abbrev pub by_tables : Option Difference → Verdict
by_tables None = Same
by_tables (Some c) = Differs c

-- by the first question on the shape that does not hold, else by the tables
abbrev pub by_shape : Option ShapeTest → Verdict → Verdict
by_shape None otherwise = otherwise
by_shape (Some t) otherwise = Shape t.part t.number

-- The verdict on a module as a model of a cell: the first part whose shape is not the cell's; else the first arguments at which a
-- table gives another value than the cell; else that they are the same.
abbrev pub verdict_of : CellData → VModule → Verdict
verdict_of d m = by_shape (first_amiss (shape_tests d m)) (by_tables (first_difference (compared d m)))
