use Rattle.std.proofs.Common.{◌≡◌, drop, ◌++◌, map}
use Rattle.bank_cells.specs.Runs.{pin_stays}
use Rattle.bank_cells.proofs.inner_pins.judged_pins.Given as goal

abbrev pub invariant-loop-group : goal.invariant-loop-group
invariant-loop-group l =
    l.found.items ++ map (pin_stays l.vectors) (map (λ pin. pin.now) (drop l.group-index l.pins))
    ≡ map (pin_stays l.vectors) (map (λ pin. pin.now) l.pins)
