use Rattle.std.proofs.Common.{length}
use Rattle.scan_cells.proofs.numbering.+number_at.Given as goal

abbrev pub decreases-number_at : goal.decreases-number_at
decreases-number_at l = length l.weights.now
