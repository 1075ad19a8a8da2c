use Rattle.std.proofs.Common.{length}
use Rattle.bool_functions.proofs.codes.+same.Given as goal

abbrev pub decreases-same : goal.decreases-same
decreases-same l = length l.codes.now
