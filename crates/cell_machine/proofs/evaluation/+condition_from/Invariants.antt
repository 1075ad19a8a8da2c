use Rattle.std.proofs.Common.{length}
use Rattle.cell_machine.proofs.evaluation.+condition_from.Given as goal

abbrev pub decreases-condition_from : goal.decreases-condition_from
decreases-condition_from l = length l.rest.now
