use Rattle.std.proofs.Common.{sym, ◌∙◌}
use Rattle.statetables.specs.Lanes.{lane}
use Rattle.statetables.proofs.LaneLemmas.{lane_none, and_false}
use Rattle.statetables.proofs.symbols.NextSymbol.ones_among.Goals as goal

pub returns-in-Low : goal.returns-in-Low
returns-in-Low c = λ k. rw c.in-Low.is (lane_none k ∙ sym (and_false (lane k c.args.points)))

pub returns-in-Unknown : goal.returns-in-Unknown
returns-in-Unknown c = λ k. rw c.in-Unknown.is (lane_none k ∙ sym (and_false (lane k c.args.points)))
