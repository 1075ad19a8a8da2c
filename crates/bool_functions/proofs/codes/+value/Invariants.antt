use Rattle.std.proofs.Common.{length}
use Rattle.bool_functions.proofs.codes.+value.Given as goal

abbrev pub decreases-value : goal.decreases-value
decreases-value l = length l.codes.now
