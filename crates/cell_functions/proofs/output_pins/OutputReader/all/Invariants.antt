use Rattle.std.proofs.Common.{◌≡◌, ◌++◌, map, drop}
use Rattle.cell_attributes.specs.Building.{outputs_from}
use Rattle.cell_attributes.specs.Shown.{shown_vocabulary}
use Rattle.cell_functions.proofs.output_pins.OutputReader.all.Given as goal

abbrev pub invariant-loop-pin : goal.invariant-loop-pin
invariant-loop-pin l = l.outputs ++ outputs_from (shown_vocabulary l.self.vocabulary.now) l.self.pins l.self.groups.now l.self.to.now l.pin (map (λ group. group.now) (drop l.pin l.owners)) ≡ outputs_from (shown_vocabulary l.self.vocabulary.now) l.self.pins l.self.groups.now l.self.to.now 0 (map (λ group. group.now) l.owners)
