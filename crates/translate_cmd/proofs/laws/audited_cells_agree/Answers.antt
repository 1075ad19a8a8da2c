use Rattle.translate_cmd.proofs.Audits.{audited-cells-agree}
use Rattle.translate_cmd.proofs.laws.audited_cells_agree.Goals as goal

pub returns : goal.returns
returns c =
    audited-cells-agree c.matching_modules_fit.ensures c.fitting_modules_agree.ensures c.same_line_is_match.ensures c.done_is_match.ensures
