use Rattle.std.proofs.Common.{sym}
use Rattle.cell_machine.specs.CellData.{data_of}
use Rattle.module_shapes.proofs.ShapeLaws.{shape-from}
use Rattle.table_audit.proofs.Feeding.{shape-feeds}
use Rattle.table_audit.proofs.comparison.audit.Goals as goal

pub by_tables-requires-clause-fed : goal.by_tables-requires-clause-fed
by_tables-requires-clause-fed c =
    let d = data_of c.args.cell.now in
    let m = c.args.model.now in
    shape-feeds d m (shape-from d m (sym c.in-None.ensures))
