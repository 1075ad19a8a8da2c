use Rattle.std.proofs.Common.{◌≡◌, drop, ◌++◌, map}
use Rattle.cell_machine.specs.Places.{places_from}
use Rattle.bank_refusals.specs.InnerPins.{pin_names, pin_places}
use Rattle.bank_refusals.proofs.pins_by_name.asked_places.Given as goal

abbrev pub invariant-loop-at : goal.invariant-loop-at
invariant-loop-at l =
    l.found.items
    ++ places_from (pin_names l.member.vector.now l.member.at l.member.name.now) l.at (map (λ pin. pin.now) (drop l.at l.pins))
    ≡ pin_places l.member.vector.now l.member.at l.member.name.now (map (λ pin. pin.now) l.pins)
