use Rattle.std.proofs.Common.{List, length}
use Rattle.trit_cubes.specs.declared.trits.Trit.{Trit}
use Rattle.trit_cubes.specs.Sets.{AreValuesOf}
use Rattle.cell_machine.specs.CellData.{data_of}
use Rattle.cell_machine.specs.CellTrace.{sources_at, output_value_at}
use Rattle.cell_machine.proofs.Tables.{HoldEach}
use Rattle.cell_machine.proofs.output_tables.output_tables.Given as goal

-- the tables so far
abbrev pub invariant-loop-output : goal.invariant-loop-output
invariant-loop-output l =
    HoldEach (λ i (values : List Trit). AreValuesOf (length (sources_at (data_of l.cell) i)) (output_value_at (data_of l.cell) i) values)
    l.output l.tables
