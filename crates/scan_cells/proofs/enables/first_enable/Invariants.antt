use Rattle.std.proofs.Common.{◌≡◌, map, drop}
use Rattle.scan_cells.specs.Enables.{first_enable}
use Rattle.scan_cells.proofs.enables.first_enable.Given as goal

-- the first one is among the rest
abbrev pub invariant-loop-i : goal.invariant-loop-i
invariant-loop-i l =
    first_enable (map (λ owner. owner.now) (drop l.i l.owners)) (drop l.i l.pins)
    ≡ first_enable (map (λ owner. owner.now) l.owners) l.pins
