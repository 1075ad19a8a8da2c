use Rattle.scan_cells.proofs.Sides.{differences_differ-lem}
use Rattle.scan_cells.proofs.laws.differences_differ.Goals as goal

pub returns : goal.returns
returns c = differences_differ-lem
