use Rattle.std.proofs.Common.{◌≡◌, map, drop}
use Rattle.std.specs.List.{fold}
use Rattle.timing_arcs.specs.GroupTexts.{cell_of}
use Rattle.cell_attributes.specs.Pins.{owner_as, owners_in}
use Rattle.cell_timings.specs.CellTimings.{with_pin}
use Rattle.cell_timings.proofs.answers.TimingSoFar.add_group.Given as goal

-- the timing so far, with that of the pins of the other names, is that of all
abbrev pub invariant-loop-name : goal.invariant-loop-name
invariant-loop-name l = record {
  timing : fold (with_pin (cell_of l.initial.subject)) l.self (map (owner_as l.owner) (drop l._name-index l.owner.arguments)) ≡ fold (with_pin (cell_of l.initial.subject)) l.initial.self (owners_in l.owner);
  same_cell : cell_of l.subject ≡ cell_of l.initial.subject;
  same_texts : l.texts ≡ l.initial.texts;
}
