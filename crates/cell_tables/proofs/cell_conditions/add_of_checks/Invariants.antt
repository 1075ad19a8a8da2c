use Rattle.std.proofs.Common.{◌≡◌, map, drop}
use Rattle.std.specs.Prelude.{flat_map}
use Rattle.cell_machine.specs.declared.checks.Check.{Check}
use Rattle.udp_tables.specs.Conditions.{condition_list, added_all}
use Rattle.cell_tables.proofs.cell_conditions.add_of_checks.Given as goal

-- adding those of the checks that are left gives what adding all gives
abbrev pub invariant-loop-check : goal.invariant-loop-check
invariant-loop-check l =
    added_all (map (λ other. other.now) l.found.items) (flat_map (λ (check : Check). condition_list check.condition) (drop l.check-index l.cell.checks))
    ≡ added_all (map (λ other. other.now) l.fn.found.items) (flat_map (λ (check : Check). condition_list check.condition) l.cell.checks)
