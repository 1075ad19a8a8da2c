use Rattle.std.proofs.Common.{◌∙◌, ap}
use Rattle.cell_machine.specs.Delay.{lesser}
use Rattle.cell_attributes.specs.Limits.{wide_output}
use Rattle.cell_attributes.specs.Shown.{shown_vocabulary}
use Rattle.cell_machine.proofs.LeastLemmas.{least_turn}
use Rattle.cell_functions.proofs.output_pins.OutputReader.wide_outputs.Goals as goal

pub loop-owner-preserved : goal.loop-owner-preserved
loop-owner-preserved c =
    least_turn (λ group. group.now)
    (wide_output (shown_vocabulary c.args.self.now.vocabulary.now) c.args.self.now.pins c.args.self.now.groups.now c.args.self.now.to.now)
    c.args.owners.now c.loop-owner.owner-index c.owner-item.result c.loop-owner.found c.lesser-found.result
    c.loop-owner-test.true c.owner-item.is (c.lesser-found.ensures ∙ ap (lesser c.loop-owner.found) c.in_ok-wide.ensures)
    ∙ c.loop-owner.invariant
