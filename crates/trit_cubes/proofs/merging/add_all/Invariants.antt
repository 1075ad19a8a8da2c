use Rattle.std.proofs.Common.{◌≡◌, ◌∷◌, ◌++◌, map, drop}
use Rattle.trit_cubes.proofs.merging.add_all.Given as goal

abbrev pub invariant-loop-cube : goal.invariant-loop-cube
invariant-loop-cube l =
    l.found.items ++ map (λ cube. l.first ∷ cube) (drop l.cube-index l.cubes) ≡ l.fn.found.items ++ map (λ cube. l.first ∷ cube) l.cubes
