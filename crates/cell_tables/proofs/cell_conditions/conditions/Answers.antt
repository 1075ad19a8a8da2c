use Rattle.std.proofs.Common.{flat_map, refl}
use Rattle.cell_machine.specs.declared.checks.Check.{Check}
use Rattle.udp_tables.specs.Conditions.{condition_list, arc_conditions}
use Rattle.cell_tables.proofs.GroupLemmas.{added-twice}
use Rattle.cell_tables.proofs.cell_conditions.conditions.Goals as goal

pub returns : goal.returns
returns c =
    added-twice _ _ _ (flat_map (λ (check : Check). condition_list check.condition) c.args.cell.now.checks)
    (flat_map (arc_conditions c.args.cell.now.arcs) c.args.cell.now.arcs)
    (rw c.as_slice.ensures at c.in_ok-add_of_arcs.ensures) c.in_ok-add_of_checks.ensures
    (rw c.new-found.ensures.items refl)
