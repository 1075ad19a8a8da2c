use Rattle.std.proofs.Common.{length, ap, ◌∙◌}
use Rattle.statetables.proofs.LaneLemmas.{unequal_columns}
use Rattle.statetables.proofs.table.TableRow.columns_among.Goals as goal

pub returns-then-symbols-inputs : goal.returns-then-symbols-inputs
returns-then-symbols-inputs c = λ k.
    unequal_columns k c.args.points c.args.self.now.inputs c.args.inputs.now
    (λ e. c.if-symbols-inputs.true (ap length c.as_slice-symbols.ensures ∙ e))
