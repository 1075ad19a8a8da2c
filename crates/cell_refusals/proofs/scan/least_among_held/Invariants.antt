use Rattle.std.proofs.Common.{◌≡◌, map, drop}
use Rattle.std.specs.Prelude.{flat_map}
use Rattle.cell_machine.specs.Delay.{lesser, least}
use Rattle.cell_refusals.proofs.scan.least_among_held.Given as goal

-- the least so far, with that of the others, is the least of all
abbrev pub invariant-loop-item : goal.invariant-loop-item
invariant-loop-item g l = lesser l.found (least (flat_map (g.S.Scan.places l.scan) (map (λ item. item.now) (drop l.item-index l.items)))) ≡ least (flat_map (g.S.Scan.places l.scan) (map (λ item. item.now) l.items))
