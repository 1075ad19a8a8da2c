use Rattle.std.proofs.Common.{◌≡◌, ◌++◌, map, drop}
use Rattle.cell_attributes.specs.Limits.{place_of_state}
use Rattle.cell_attributes.specs.Shown.{shown_state}
use Rattle.cell_reader.proofs.limits.add_states.Given as goal

abbrev pub invariant-loop-state : goal.invariant-loop-state
invariant-loop-state l = l.offsets.items ++ map (place_of_state l.group) (map shown_state (drop l.state-index l.state-items)) ≡ l.initial.offsets.items ++ map (place_of_state l.group) (map shown_state l.state-items)
