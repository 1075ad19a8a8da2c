use Rattle.std.proofs.Common.{◌≡◌, map, drop}
use Rattle.std.specs.Prelude.{flat_map}
use Rattle.udp_tables.specs.Conditions.{arc_conditions, added_all}
use Rattle.cell_tables.proofs.cell_conditions.add_of_arcs.Given as goal

-- adding those of the arcs that are left gives what adding all gives
abbrev pub invariant-loop-arc : goal.invariant-loop-arc
invariant-loop-arc l =
    added_all (map (λ other. other.now) l.found.items) (flat_map (arc_conditions l.arcs) (drop l.arc-index l.arcs))
    ≡ added_all (map (λ other. other.now) l.fn.found.items) (flat_map (arc_conditions l.arcs) l.arcs)
