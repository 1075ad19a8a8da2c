use Rattle.std.proofs.Common.{◌≡◌, ◌+◌, map, drop}
use Rattle.udp_tables.specs.Conditions.{condition_place}
use Rattle.cell_tables.proofs.cell_conditions.condition_number.Given as goal

-- none of those before is the tree
abbrev pub invariant-loop-i : goal.invariant-loop-i
invariant-loop-i l =
    condition_place (map (λ other. other.now) l.conditions) l.condition
    ≡ l.i + condition_place (map (λ other. other.now) (drop l.i l.conditions)) l.condition
