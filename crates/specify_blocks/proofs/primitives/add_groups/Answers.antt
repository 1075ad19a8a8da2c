use Rattle.cell_machine.specs.CellData.{data_of}
use Rattle.udp_tables.specs.CellPrimitives.{group_primitive}
use Rattle.cell_tables.proofs.EachBelow.{below-more}
use Rattle.specify_blocks.proofs.primitives.add_groups.Goals as goal

pub loop-group-preserved : goal.loop-group-preserved
loop-group-preserved c =
    below-more (group_primitive (data_of c.args.from.now.cell.now)) c.loop-group.group _ _ _ c.in_ok-sequential_udp.field-0
    c.loop-group.invariant c.in_ok-push.ensures.ok c.in_ok-sequential_udp.ensures
