use Rattle.std.proofs.Common.{◌≡◌, ◌++◌, map, drop}
use Rattle.cell_attributes.specs.States.{node_named}
use Rattle.cell_attributes.specs.Shown.{shown_state}
use Rattle.cell_attributes.proofs.states.nodes_in.Given as goal

abbrev pub invariant-loop-name : goal.invariant-loop-name
invariant-loop-name l = map shown_state l.states.items ++ map node_named (map (λ name. name.now) (drop l.name-index l.name-items)) ≡ map node_named (map (λ name. name.now) l.name-items)
