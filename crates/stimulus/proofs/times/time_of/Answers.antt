use Rattle.stimulus.proofs.TimeBounds.{below_all}
use Rattle.std.proofs.Common.{arith}
use Rattle.stimulus.proofs.times.time_of.Goals as goal

pub with_digit-time-requires-clause-small : goal.with_digit-time-requires-clause-small
with_digit-time-requires-clause-small c = below_all _ _ c.loop-digit.invariant.below (omega arith)
