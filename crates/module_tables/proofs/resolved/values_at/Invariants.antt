use Rattle.std.proofs.Common.{◌≡◌, List, Bool, map, length}
use Rattle.std.specs.List.{range_with_len}
use Rattle.std.specs.Fn.{FnReturnsAt}
use Rattle.trit_cubes.specs.declared.trits.Trit.{Trit}
use Rattle.trit_cubes.specs.Sets.{Gives, point_of}
use Rattle.module_tables.proofs.resolved.values_at.Given as goal

-- the values at the points so far
abbrev pub invariant-loop-number : goal.invariant-loop-number
invariant-loop-number g l =
    (length l.values ≡ l.number)
    × ((f : List Bool → Trit) → Gives (λ p t. FnReturnsAt g.F.Fn l.function p t) l.places f
    → l.values ≡ map (λ k. f (point_of l.places k)) (range_with_len 0 l.number))
