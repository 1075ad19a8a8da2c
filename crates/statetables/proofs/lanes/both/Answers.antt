use Rattle.statetables.proofs.LaneLemmas.{lane_both}
use Rattle.statetables.proofs.lanes.both.Goals as goal

pub returns : goal.returns
returns c = lane_both c.args.left c.args.right
