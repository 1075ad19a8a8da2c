use Rattle.library_audit.proofs.Matching.{same_line_is_match}
use Rattle.library_audit.proofs.laws.same_line_is_match.Goals as goal

pub returns : goal.returns
returns c = same_line_is_match c.same_is_matching.ensures
