use Rattle.std.proofs.Common.{length}
use Rattle.bool_functions.proofs.kept_values.+point_number.Given as goal

abbrev pub decreases-point_number : goal.decreases-point_number
decreases-point_number l = length l.names.now
