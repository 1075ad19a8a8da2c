use Rattle.std.proofs.Common.{sym}
use Rattle.cell_machine.proofs.Columns.{inputs_match-picked}
use Rattle.cell_machine.proofs.steps.columns_match.Goals as goal

pub returns-then-symbols-inputs : goal.returns-then-symbols-inputs
returns-then-symbols-inputs c =
    sym (inputs_match-picked c.args.symbols.now c.args.inputs.now c.args.before.now c.args.after.now c.if-symbols-inputs.true)
