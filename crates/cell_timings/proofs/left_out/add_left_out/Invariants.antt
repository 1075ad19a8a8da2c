use Rattle.std.proofs.Common.{◌≡◌, ◌++◌, map, drop}
use Rattle.cell_timings.specs.PinTimings.{left_out_as}
use Rattle.cell_timings.proofs.left_out.add_left_out.Given as goal

abbrev pub invariant-loop-place : goal.invariant-loop-place
invariant-loop-place l = l.found ++ map (left_out_as l.pin l.owner) (drop l.place-index l.places) ≡ l.initial.found ++ map (left_out_as l.pin l.owner) l.places
