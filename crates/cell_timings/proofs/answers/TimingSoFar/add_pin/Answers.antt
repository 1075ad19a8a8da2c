use Rattle.std.proofs.Common.{◌∙◌, ap}
use Rattle.cell_timings.specs.PinTimings.{Answer}
use Rattle.cell_timings.specs.CellTimings.{timing_and, pin_told}
use Rattle.cell_timings.specs.Held.{left_room}
use Rattle.cell_timings.proofs.answers.TimingSoFar.add_pin.Goals as goal

pub returns-clause-timing : goal.returns-clause-timing
returns-clause-timing c =
    let before = c.args.self.now in
    λ i. record {
      timing = (c.in_ok-add.ensures ∙ ap (λ (answer : Answer). timing_and before.timing (pin_told before.pins c.args.owner.now answer)) c.in_ok-answer.ensures) i;
      pins = c.in_ok-self.ensures i;
      room = (c.left_room-self.ensures ∙ ap (λ (answer : Answer). left_room before.room answer) c.in_ok-answer.ensures) i;
    }
