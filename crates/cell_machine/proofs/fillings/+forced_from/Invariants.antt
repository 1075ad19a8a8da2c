use Rattle.std.proofs.Common.{length}
use Rattle.cell_machine.proofs.fillings.+forced_from.Given as goal

abbrev pub decreases-forced_from : goal.decreases-forced_from
decreases-forced_from l = length l.rest.now
