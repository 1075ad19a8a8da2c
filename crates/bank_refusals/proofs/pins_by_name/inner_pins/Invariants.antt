use Rattle.std.proofs.Common.{◌≡◌, drop, ◌++◌, map}
use Rattle.bank_refusals.specs.Members.{inner_pins}
use Rattle.bank_refusals.proofs.pins_by_name.inner_pins.Given as goal

abbrev pub invariant-loop-item : goal.invariant-loop-item
invariant-loop-item l =
    map (λ pin. pin.now) l.found.items ++ inner_pins (drop l.item-index l.items) ≡ inner_pins l.items
