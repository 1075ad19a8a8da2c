use Rattle.std.proofs.Common.{◌≡◌, map, drop}
use Rattle.cell_attributes.specs.Vocabulary.{is_node}
use Rattle.cell_attributes.specs.Shown.{shown_state}
use Rattle.cell_attributes.proofs.vocabulary.is_node.Given as goal

abbrev pub invariant-loop-state : goal.invariant-loop-state
invariant-loop-state l = is_node (map shown_state (drop l.state-index l.states)) l.name ≡ is_node (map shown_state l.states) l.name
