use Rattle.std.proofs.Common.{◌≡◌, ◌++◌, map, drop}
use Rattle.cell_attributes.specs.StateReadings.{state_reading}
use Rattle.cell_attributes.specs.Shown.{shown_vocabulary}
use Rattle.cell_attributes.proofs.state_readings.state_readings.Given as goal

abbrev pub invariant-loop-group : goal.invariant-loop-group
invariant-loop-group l = l.readings ++ map (state_reading (shown_vocabulary l.vocabulary) l.pins) (map (λ group. group.now) (drop l.group-index l.groups)) ≡ map (state_reading (shown_vocabulary l.vocabulary) l.pins) (map (λ group. group.now) l.groups)
