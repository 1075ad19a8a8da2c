use Rattle.std.proofs.Common.{List, [], ◌∷◌, None, sym, ◌∙◌, rules}
use Rattle.cell_machine.specs.CellData.{data_of}
use Rattle.module_tables.specs.declared.differences.Difference.{Difference}
use Rattle.module_tables.specs.declared.differences.AuditPart.{AuditPart}
use Rattle.module_tables.specs.declared.differences.AuditPart.TheVariants as part
use Rattle.module_tables.specs.Tables.{part_compared}
use Rattle.table_audit.proofs.Firsts.{or_next, or_none}
use Rattle.table_audit.proofs.comparison.first_of_tables.Goals as goal

pub returns : goal.returns
returns c =
    let f : AuditPart → List Difference = part_compared (data_of c.args.cell.now) c.args.model.now in
    sym (or_next f part.State (part.Notifier ∷ part.Check ∷ part.Path ∷ part.Output ∷ []) None c.first.result c.first.ensures (λ e. e)
    ∙ or_next f part.Notifier (part.Check ∷ part.Path ∷ part.Output ∷ []) _ _ c.or_else.ensures (λ e. search rules)
    ∙ or_next f part.Check (part.Path ∷ part.Output ∷ []) _ _ c.or_else-2.ensures (λ e. search rules)
    ∙ or_next f part.Path (part.Output ∷ []) _ _ c.or_else-3.ensures (λ e. search rules)
    ∙ or_next f part.Output [] _ _ c.or_else-4.ensures (λ e. search rules)
    ∙ or_none c.or_else-4.result)
