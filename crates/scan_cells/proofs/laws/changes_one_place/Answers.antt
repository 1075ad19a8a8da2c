use Rattle.scan_cells.proofs.Sides.{changes_one_place-lem}
use Rattle.scan_cells.proofs.laws.changes_one_place.Goals as goal

pub returns : goal.returns
returns c = changes_one_place-lem
