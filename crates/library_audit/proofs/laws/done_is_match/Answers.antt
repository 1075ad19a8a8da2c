use Rattle.library_audit.proofs.Matching.{done_is_match}
use Rattle.library_audit.proofs.laws.done_is_match.Goals as goal

pub returns : goal.returns
returns c = done_is_match c.same_is_matching.ensures
