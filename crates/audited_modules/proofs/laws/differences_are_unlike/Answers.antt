use Rattle.audited_modules.proofs.Differences.{differences-unlike}
use Rattle.audited_modules.proofs.laws.differences_are_unlike.Goals as goal

pub returns : goal.returns
returns c = differences-unlike
