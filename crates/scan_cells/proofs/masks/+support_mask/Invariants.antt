use Rattle.std.proofs.Common.{length}
use Rattle.scan_cells.proofs.masks.+support_mask.Given as goal

abbrev pub decreases-support_mask : goal.decreases-support_mask
decreases-support_mask l = length l.support.now
