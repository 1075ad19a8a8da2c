use Rattle.std.proofs.Common.{◌≡◌, ◌++◌, map, drop}
use Rattle.trit_cubes.specs.Filling.{same}
use Rattle.trit_cubes.proofs.valuation.points_with.Given as goal

abbrev pub invariant-loop-other : goal.invariant-loop-other
invariant-loop-other l = l.set.items ++ map (same l.value) (drop l.other-index l.values) ≡ map (same l.value) l.values
