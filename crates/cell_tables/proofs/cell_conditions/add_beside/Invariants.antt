use Rattle.std.proofs.Common.{◌≡◌, map, drop}
use Rattle.udp_tables.specs.Conditions.{conditions_beside, added_all}
use Rattle.std.specs.Prelude.{filter, flat_map}
use Rattle.cell_machine.specs.declared.arcs.Arc.{Arc}
use Rattle.cell_machine.specs.CellTrace.{same_pins}
use Rattle.udp_tables.specs.Conditions.{condition_list}
use Rattle.cell_tables.proofs.cell_conditions.add_beside.Given as goal

-- adding those of the arcs that are left gives what adding all gives
abbrev pub invariant-loop-other : goal.invariant-loop-other
invariant-loop-other l =
    added_all (map (λ other. other.now) l.found.items)
    (flat_map (λ (other : Arc). condition_list other.condition) (filter (same_pins l.arc) (drop l.other-index l.arcs)))
    ≡ added_all (map (λ other. other.now) l.fn.found.items) (conditions_beside l.arcs l.arc)
