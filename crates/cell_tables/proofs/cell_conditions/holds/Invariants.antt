use Rattle.std.proofs.Common.{◌≡◌, map, drop}
use Rattle.std.specs.List.{list_any}
use Rattle.bool_functions.specs.SameTrees.{same_tree}
use Rattle.cell_tables.proofs.cell_conditions.holds.Given as goal

abbrev pub invariant-loop-other : goal.invariant-loop-other
invariant-loop-other l =
    list_any (same_tree l.condition) (map (λ other. other.now) (drop l.other-index l.conditions))
    ≡ list_any (same_tree l.condition) (map (λ other. other.now) l.conditions)
