use Rattle.std.proofs.Common.{◌∙◌}
use Rattle.udp_tables.specs.Conditions.{arc_conditions}
use Rattle.cell_tables.proofs.GroupLemmas.{next-added}
use Rattle.cell_tables.proofs.cell_conditions.add_of_arcs.Goals as goal

pub loop-arc-preserved : goal.loop-arc-preserved
loop-arc-preserved c =
    next-added (arc_conditions c.args.arcs.now) _ _ c.args.arcs.now c.loop-arc.arc-index c.arc-item.result c.loop-arc-test.true c.arc-item.is
    c.in_ok-add_of_arc.ensures
    ∙ c.loop-arc.invariant
