use Rattle.std.proofs.Common.{◌≡◌, drop, ◌++◌, map}
use Rattle.std.specs.Prelude.{flat_map}
use Rattle.bank_refusals.specs.InnerPins.{statements_at}
use Rattle.bank_refusals.proofs.pins_by_name.items_at.Given as goal

abbrev pub invariant-loop-place : goal.invariant-loop-place
invariant-loop-place l =
    map (λ item. item.now) l.found.items
    ++ flat_map (statements_at (map (λ pin. pin.now) l.pins)) (drop l.place-index l.places)
    ≡ flat_map (statements_at (map (λ pin. pin.now) l.pins)) l.places
