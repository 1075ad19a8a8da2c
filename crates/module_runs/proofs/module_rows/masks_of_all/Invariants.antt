use Rattle.std.proofs.Common.{◌≡◌, ◌++◌, map, drop}
use Rattle.row_masks.specs.LookUps.{udp_masks}
use Rattle.module_runs.proofs.module_rows.masks_of_all.Given as goal

-- the masks so far and those of the primitives that are left are all masks
abbrev pub invariant-loop-udp : goal.invariant-loop-udp
invariant-loop-udp l = l.all ++ map udp_masks (drop l.udp-index l.udps) ≡ map udp_masks l.udps
