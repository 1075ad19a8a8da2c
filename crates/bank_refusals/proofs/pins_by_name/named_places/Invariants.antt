use Rattle.std.proofs.Common.{take, map}
use Rattle.bank_refusals.specs.InnerPins.{AreFound}
use Rattle.bank_refusals.proofs.pins_by_name.named_places.Given as goal

abbrev pub invariant-loop-at : goal.invariant-loop-at
invariant-loop-at l = AreFound l.places (map (λ pin. pin.now) (take l.at l.pins))
