use Rattle.std.proofs.Common.{◌<◌, IsTrue, length, sym, subst, arith, rules}
use Rattle.cell_machine.specs.CellData.{data_of}
use Rattle.module_terminals.specs.Feeding.{feeds_gating}
use Rattle.module_tables.proofs.TableLaws.{notified_group}
use Rattle.module_tables.proofs.differences.AuditPart.first_at.Goals as goal

pub of-requires-clause-fed : goal.of-requires-clause-fed
of-requires-clause-fed c =
    let inside : c.args.number < length c.args.cell.now.groups
    = search rules in
    c.requires.fed.groups c.args.number inside

pub of-requires-in-Notifier-clause-fed : goal.of-requires-in-Notifier-clause-fed
of-requires-in-Notifier-clause-fed c =
    let inside : c.args.number < length c.args.cell.now.groups
    = grind (arith, notified_group) in
    c.requires.fed.groups c.args.number inside

pub of_condition-requires-clause-fed : goal.of_condition-requires-clause-fed
of_condition-requires-clause-fed c =
    let d = data_of c.args.cell.now in
    let m = c.args.model.now in
    subst (λ o. IsTrue (feeds_gating d m o)) (sym c.of_check-condition.ensures) (c.requires.fed.checks c.args.number)

pub of_condition-requires-in-Path-clause-fed : goal.of_condition-requires-in-Path-clause-fed
of_condition-requires-in-Path-clause-fed c =
    let d = data_of c.args.cell.now in
    let m = c.args.model.now in
    subst (λ o. IsTrue (feeds_gating d m o)) (sym c.of_path-condition.ensures) (c.requires.fed.paths c.args.number)

pub of_output-requires-clause-fed : goal.of_output-requires-clause-fed
of_output-requires-clause-fed c =
    let inside : c.args.number < length c.args.cell.now.outputs
    = search rules in
    c.requires.fed.outputs c.args.number inside
