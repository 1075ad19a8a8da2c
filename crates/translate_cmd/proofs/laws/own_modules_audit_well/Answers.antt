use Rattle.translate_cmd.proofs.OwnAudits.{own_modules_audit_well}
use Rattle.translate_cmd.proofs.laws.own_modules_audit_well.Goals as goal

pub returns : goal.returns
returns c = own_modules_audit_well c.generated_modules_match.ensures c.same_line_is_match.ensures c.done_is_match.ensures
