use Rattle.std.proofs.Common.{◌≡◌, drop}
use Rattle.bool_functions.specs.Point.{entry_of}
use Rattle.bool_functions.proofs.blocks.entry_of.Given as goal

abbrev pub invariant-loop-place : goal.invariant-loop-place
invariant-loop-place l = entry_of (drop l.place-index l.places) l.rest l.i ≡ entry_of l.places l.point l.i
