use Rattle.audited_modules.proofs.MatchingModules.{matching-fit}
use Rattle.audited_modules.proofs.laws.matching_modules_fit.Goals as goal

pub returns : goal.returns
returns c = matching-fit
