use Rattle.std.proofs.Common.{take}
use Rattle.first_names.specs.Places.{FindsFirst}
use Rattle.first_names.proofs.places.first_names.Given as goal

abbrev pub invariant-loop-place : goal.invariant-loop-place
invariant-loop-place g l = FindsFirst g.T.Named.name_of l.found (take l.place l.things)
