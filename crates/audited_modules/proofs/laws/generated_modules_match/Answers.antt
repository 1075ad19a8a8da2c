use Rattle.audited_modules.proofs.AuditedModules.{generated-match}
use Rattle.audited_modules.proofs.laws.generated_modules_match.Goals as goal

pub returns : goal.returns
returns c = generated-match
