use Rattle.std.proofs.Common.{◌≡◌, ◌-◌, Bool, List, [], ◌∷◌, map, flat_map}
use Rattle.std.specs.List.{range_with_len}
use Rattle.trit_cubes.specs.declared.trits.Trit.{Trit}
use Rattle.trit_cubes.specs.Prime.{cubes_of}
use Rattle.trit_cubes.specs.Resolution.{res}
use Rattle.trit_cubes.specs.Sets.{AreValuesOf}
use Rattle.module_tables.specs.Lists.{list_numbered}
use Rattle.module_tables.specs.LookUps.{Drives}
use Rattle.module_tables.specs.Tables.{value_compared, first_difference}
use Rattle.module_tables.proofs.values.first_unlike.Given as goal

-- the first one is among the rest
abbrev pub invariant-loop-k : goal.invariant-loop-k
invariant-loop-k l =
    (f : List Bool → Trit) (g : List Trit → Trit)
    → AreValuesOf l.places f l.table → Drives l.levels g
    → first_difference (flat_map (λ k. value_compared l.part l.number (res f) g (list_numbered l.places k) ∷ []) (range_with_len l.k (l.count - l.k)))
    ≡ first_difference (map (value_compared l.part l.number (res f) g) (cubes_of l.places))
