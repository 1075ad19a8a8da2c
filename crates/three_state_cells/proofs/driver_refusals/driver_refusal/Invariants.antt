use Rattle.std.proofs.Common.{◌≡◌, ◌+◌, map, drop, length}
use Rattle.std.specs.Prelude.{flat_map}
use Rattle.cell_attributes.specs.Pins.{owners_in}
use Rattle.cell_reader.specs.PinTimings.{subject_at}
use Rattle.three_state_cells.specs.Refusals.{refusal_with, driver_refusal}
use Rattle.three_state_cells.proofs.driver_refusals.driver_refusal.Given as goal

-- what decides so far decides with the other groups as all do
abbrev pub invariant-loop-group : goal.invariant-loop-group
invariant-loop-group l = record {
  so_far :
      refusal_with l.fn.core l.found l.core.place (map (λ group. group.now) (drop l.group-index l.groups))
      ≡ driver_refusal l.fn.core (map (λ group. group.now) l.groups);
  number :
      l.core.place + length (flat_map owners_in (map (λ group. group.now) (drop l.group-index l.groups)))
      ≡ length (flat_map owners_in (map (λ group. group.now) l.groups));
  same : l.core ≡ subject_at l.fn.core l.core.place;
}
