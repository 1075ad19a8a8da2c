use Rattle.table_audit.proofs.VerdictLaws.{same_is_matching-lem}
use Rattle.table_audit.proofs.laws.same_is_matching.Goals as goal

pub returns : goal.returns
returns c = same_is_matching-lem
