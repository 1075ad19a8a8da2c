use Rattle.table_audit.proofs.VerdictLaws.{same_is_matching-lem}
use Rattle.audited_modules.proofs.AuditedModules.{generated-same}
use Rattle.audited_modules.proofs.laws.generated_modules_are_same.Goals as goal

pub returns : goal.returns
returns c = generated-same same_is_matching-lem
