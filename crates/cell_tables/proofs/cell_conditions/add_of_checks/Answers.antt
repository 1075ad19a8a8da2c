use Rattle.std.proofs.Common.{◌∙◌}
use Rattle.cell_machine.specs.declared.checks.Check.{Check}
use Rattle.udp_tables.specs.Conditions.{condition_list}
use Rattle.cell_tables.proofs.GroupLemmas.{next-added}
use Rattle.cell_tables.proofs.cell_conditions.add_of_checks.Goals as goal

pub loop-check-preserved : goal.loop-check-preserved
loop-check-preserved c =
    next-added (λ (check : Check). condition_list check.condition) _ _ c.args.cell.now.checks c.loop-check.check-index c.check-item.result
    (rw c.as_slice-check-items.ensures at c.loop-check-test.true) (rw c.as_slice-check-items.ensures at c.check-item.is)
    c.in_ok-add_if_there.ensures
    ∙ c.loop-check.invariant
