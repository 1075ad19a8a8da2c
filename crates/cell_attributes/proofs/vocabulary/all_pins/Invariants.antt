use Rattle.std.proofs.Common.{◌≡◌, ◌++◌, map, drop}
use Rattle.std.specs.Prelude.{flat_map}
use Rattle.cell_attributes.specs.Vocabulary.{pin_entries}
use Rattle.cell_attributes.specs.Shown.{shown_state, shown_entry}
use Rattle.cell_attributes.proofs.vocabulary.all_pins.Given as goal

abbrev pub invariant-loop-pin : goal.invariant-loop-pin
invariant-loop-pin l = map shown_entry l.entries.items ++ flat_map (pin_entries (map shown_state l.states)) (map (λ group. group.now) (drop l.pin-index l.pins)) ≡ flat_map (pin_entries (map shown_state l.states)) (map (λ group. group.now) l.pins)
