use Rattle.std.proofs.Common.{length}
use Rattle.cell_machine.proofs.fillings.+forced_around.Given as goal

abbrev pub decreases-forced_around : goal.decreases-forced_around
decreases-forced_around l = length l.rest.now
