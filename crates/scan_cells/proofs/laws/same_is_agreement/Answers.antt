use Rattle.scan_cells.proofs.Sides.{same_is_agreement-lem}
use Rattle.scan_cells.proofs.laws.same_is_agreement.Goals as goal

pub returns : goal.returns
returns c = same_is_agreement-lem
