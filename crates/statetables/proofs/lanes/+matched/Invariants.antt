use Rattle.std.proofs.Common.{length}
use Rattle.statetables.proofs.lanes.+matched.Given as goal

abbrev pub decreases-matched : goal.decreases-matched
decreases-matched l = length l.symbols.now
