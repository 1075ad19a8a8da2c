use Rattle.std.proofs.Common.{◌∙◌, ◌++◌, ◌∷◌, [], ap}
use Rattle.cell_attributes.proofs.Turns.{node_turn}
use Rattle.cell_functions.proofs.state_groups.node_groups_of.Goals as goal

pub loop-node-preserved : goal.loop-node-preserved
loop-node-preserved c =
    node_turn (λ name. name.now) c.args.reading.now.table c.args.reading.now c.args.nodes.now c.loop-node.node c.loop-node.groups c.push.new.self
    c.loop-node-test.true (c.in_ok-push.ensures.ok ∙ ap (λ g. c.loop-node.groups ++ g ∷ []) c.in_ok-node_group.ensures)
    ∙ c.loop-node.invariant
