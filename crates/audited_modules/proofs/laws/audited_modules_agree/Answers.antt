use Rattle.table_audit.proofs.VerdictLaws.{same_is_matching-lem}
use Rattle.audited_modules.proofs.AuditedModules.{audited-agree}
use Rattle.audited_modules.proofs.laws.audited_modules_agree.Goals as goal

pub returns : goal.returns
returns c = audited-agree same_is_matching-lem
