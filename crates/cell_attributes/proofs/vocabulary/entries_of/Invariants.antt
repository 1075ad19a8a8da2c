use Rattle.std.proofs.Common.{◌≡◌, ◌++◌, map, drop}
use Rattle.std.specs.Prelude.{flat_map}
use Rattle.cell_attributes.specs.Vocabulary.{state_entries, entries_of}
use Rattle.cell_attributes.specs.Shown.{shown_state, shown_entry}
use Rattle.cell_attributes.proofs.vocabulary.entries_of.Given as goal

abbrev pub invariant-loop-state : goal.invariant-loop-state
invariant-loop-state l = map shown_entry l.entries.items ++ flat_map state_entries (map shown_state (drop l.state-index l.states)) ≡ entries_of (map shown_state l.states) (map (λ group. group.now) l.pins)
