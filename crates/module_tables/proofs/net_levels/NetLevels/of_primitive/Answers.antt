use Rattle.std.proofs.Common.{map, ap, ◌∙◌}
use Rattle.cell_machine.specs.Inputs.{numbered_value}
use Rattle.udp_tables.specs.declared.table.Udp.{Udp}
use Rattle.udp_tables.specs.Primitive.{level_output}
use Rattle.module_tables.proofs.NetOrder.{in_order}
use Rattle.module_tables.proofs.net_levels.NetLevels.of_primitive.Goals as goal

pub returns : goal.returns
returns c = λ values few.
    (λ i. let udp : Udp = c.of.ensures i in level_output udp.rows (map (numbered_value values) (c.order_of.ensures i)))
    ∙ ap (level_output c.args.udp.now.rows) (in_order c.args.nets.now c.args.inputs.now values few)
