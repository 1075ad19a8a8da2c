use Rattle.std.proofs.Common.{◌≡◌, ◌++◌, map, drop}
use Rattle.cell_attributes.specs.Building.{node_groups}
use Rattle.cell_functions.proofs.state_groups.node_groups_of.Given as goal

abbrev pub invariant-loop-node : goal.invariant-loop-node
invariant-loop-node l = l.groups ++ node_groups l.reading.table l.reading l.node (map (λ name. name.now) (drop l.node l.nodes)) ≡ node_groups l.reading.table l.reading 0 (map (λ name. name.now) l.nodes)
