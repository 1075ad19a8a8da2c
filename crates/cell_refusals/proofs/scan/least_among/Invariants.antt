use Rattle.std.proofs.Common.{◌≡◌, drop}
use Rattle.std.specs.Prelude.{flat_map}
use Rattle.cell_machine.specs.Delay.{lesser, least}
use Rattle.cell_refusals.proofs.scan.least_among.Given as goal

-- the least so far, with that of the others, is the least of all
abbrev pub invariant-loop-item : goal.invariant-loop-item
invariant-loop-item g l = lesser l.found (least (flat_map (g.S.Scan.places l.scan) (drop l.item-index l.items))) ≡ least (flat_map (g.S.Scan.places l.scan) l.items)
