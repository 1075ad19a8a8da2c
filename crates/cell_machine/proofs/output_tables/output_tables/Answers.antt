use Rattle.std.proofs.Common.{List, length, sym, subst}
use Rattle.trit_cubes.specs.declared.trits.Trit.{Trit}
use Rattle.trit_cubes.specs.Sets.{AreValuesOf}
use Rattle.cell_machine.specs.CellData.{data_of}
use Rattle.cell_machine.specs.CellTrace.{sources_at, output_value_at}
use Rattle.cell_machine.proofs.Tables.{one_more_holds}
use Rattle.cell_machine.proofs.output_tables.output_tables.Goals as goal

pub loop-output-preserved : goal.loop-output-preserved
loop-output-preserved c =
    let cell = data_of c.args.cell.now in
    let i = c.loop-output.output in
    one_more_holds (λ i (values : List Trit). AreValuesOf (length (sources_at cell i)) (output_value_at cell i) values)
    i c.loop-output.tables _ c.from_vec.result c.loop-output.invariant
    (subst (AreValuesOf (length (sources_at cell i)) (output_value_at cell i)) (sym c.from_vec.ensures) c.in_ok-values.ensures)
    c.in_ok-push.ensures.ok
