use Rattle.std.proofs.Common.{◌≡◌, ◌++◌, map, drop}
use Rattle.std.specs.Prelude.{flat_map}
use Rattle.cell_attributes.specs.Declarations.{declared_state}
use Rattle.cell_attributes.specs.Shown.{shown_name, shown_state}
use Rattle.cell_attributes.proofs.declarations.declare_states.Given as goal

abbrev pub invariant-loop-state : goal.invariant-loop-state
invariant-loop-state l = map shown_name l.declared.items ++ flat_map (declared_state l.at) (map shown_state (drop l.state-index l.states)) ≡ map shown_name l.initial.declared.items ++ flat_map (declared_state l.at) (map shown_state l.states)
