use Rattle.std.proofs.Common.{slice_get, ap, ◌∙◌}
use Rattle.cell_machine.specs.declared.checks.Check.{Check}
use Rattle.udp_tables.specs.declared.timing_checks.TimingCheck.{TimingCheck}
use Rattle.module_terminals.specs.Feeding.{gating}
use Rattle.module_terminals.proofs.Gatings.{bounded_condition, check_few, gating_at}
use Rattle.module_terminals.proofs.condition_wires.of_check.Goals as goal

pub invariant_of-result : goal.invariant_of-result
invariant_of-result c = record {
  bounded = bounded_condition c.check.result.now.condition c.check.ensures.facts.bounded;
  few = check_few c.args.cell.now c.args.check c.check.result.now c.check.ensures.is;
}

pub returns : goal.returns
returns c =
    ap (gating c.check.result.now.condition) c.check_wire.ensures
    ∙ gating_at (λ (check : Check). check.condition) (λ (timing : TimingCheck). timing.condition)
    (slice_get c.args.cell.now.checks c.args.check) (slice_get c.args.model.now.checks c.args.check) c.check.result.now
    c.check.ensures.is
