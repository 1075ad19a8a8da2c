use Rattle.std.proofs.Common.{◌≡◌, ◌∷◌, ◌++◌, map, drop}
use Rattle.trit_cubes.specs.Prime.{uncovered}
use Rattle.trit_cubes.proofs.merging.add_uncovered.Given as goal

abbrev pub invariant-loop-cube : goal.invariant-loop-cube
invariant-loop-cube l =
    l.found.items ++ map (λ cube. l.first ∷ cube) (uncovered l.cover (drop l.cube-index l.cubes)) ≡ l.fn.found.items ++ map (λ cube. l.first ∷ cube) (uncovered l.cover l.cubes)
