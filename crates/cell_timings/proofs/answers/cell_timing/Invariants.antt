use Rattle.std.proofs.Common.{◌≡◌, map, drop}
use Rattle.std.specs.Prelude.{flat_map}
use Rattle.std.specs.List.{fold}
use Rattle.timing_arcs.specs.GroupTexts.{cell_of}
use Rattle.cell_attributes.specs.Pins.{owners_in}
use Rattle.cell_timings.specs.CellTimings.{with_pin}
use Rattle.cell_timings.proofs.answers.cell_timing.Given as goal

-- the timing so far, with that of the pins of the other groups, is that of all
abbrev pub invariant-loop-group : goal.invariant-loop-group
invariant-loop-group l = record {
  timing : fold (with_pin (cell_of l.initial.subject)) l.held (flat_map owners_in (map (λ group. group.now) (drop l.group-index l.groups))) ≡ fold (with_pin (cell_of l.initial.subject)) l.initial.held (flat_map owners_in (map (λ group. group.now) l.groups));
  same_cell : cell_of l.subject ≡ cell_of l.initial.subject;
}
