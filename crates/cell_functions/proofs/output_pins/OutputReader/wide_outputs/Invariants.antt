use Rattle.std.proofs.Common.{◌≡◌, map, drop}
use Rattle.std.specs.Prelude.{flat_map}
use Rattle.cell_machine.specs.Delay.{lesser, least}
use Rattle.cell_attributes.specs.Limits.{wide_output}
use Rattle.cell_attributes.specs.Shown.{shown_vocabulary}
use Rattle.cell_functions.proofs.output_pins.OutputReader.wide_outputs.Given as goal

-- the least so far, with that of the others, is the least of all
abbrev pub invariant-loop-owner : goal.invariant-loop-owner
invariant-loop-owner l = lesser l.found (least (flat_map (wide_output (shown_vocabulary l.self.vocabulary.now) l.self.pins l.self.groups.now l.self.to.now) (map (λ group. group.now) (drop l.owner-index l.owners)))) ≡ least (flat_map (wide_output (shown_vocabulary l.self.vocabulary.now) l.self.pins l.self.groups.now l.self.to.now) (map (λ group. group.now) l.owners))
