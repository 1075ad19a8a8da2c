use Rattle.std.proofs.Common.{◌∙◌}
use Rattle.std.proofs.lemmas.Result.{IfOk-weaker as lift_ok}
use Rattle.cell_reader.specs.Parts.{subject_in}
use Rattle.cell_reader.proofs.Decides.{told_decides}
use Rattle.cell_reader.proofs.later.middle_refusal.Goals as goal

-- what is told decides as all does
pub returns : goal.returns
returns c =
    lift_ok c.told_refusal.result _ _ (λ refusal is. is ∙ told_decides (subject_in c.args.parts.now) c.args.parts.now.cell.now)
    c.told_refusal.ensures
