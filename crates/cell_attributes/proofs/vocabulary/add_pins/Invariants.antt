use Rattle.std.proofs.Common.{◌≡◌, ◌++◌, map, drop}
use Rattle.cell_attributes.specs.Vocabulary.{pin_entry, pin_entries}
use Rattle.cell_attributes.specs.Shown.{shown_state, shown_entry}
use Rattle.cell_attributes.proofs.vocabulary.add_pins.Given as goal

abbrev pub invariant-loop-value : goal.invariant-loop-value
invariant-loop-value l = map shown_entry l.entries.items ++ map (pin_entry (map shown_state l.states) l.group) (drop l.value-index l.group.arguments) ≡ map shown_entry l.initial.entries.items ++ pin_entries (map shown_state l.states) l.group
