use Rattle.cell_machine.specs.CellData.{data_of}
use Rattle.module_tables.specs.Tables.{notes_by_list}
use Rattle.module_tables.proofs.Firsts.{lists-from}
use Rattle.module_tables.proofs.states.GroupTables.notes_by_old.Goals as goal

pub loop-k-init : goal.loop-k-init
loop-k-init c =
    lists-from (notes_by_list (data_of c.args.self.now.cell.now) c.args.self.now.model.now c.args.self.now.group c.args.old)
    c.pins-pins.result _ c.list_count-count.result c.list_count-count.ensures.count c.pins-pins.ensures.value
