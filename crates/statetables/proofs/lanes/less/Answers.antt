use Rattle.statetables.proofs.LaneLemmas.{lane_less}
use Rattle.statetables.proofs.lanes.less.Goals as goal

pub returns : goal.returns
returns c = lane_less c.args.left c.args.taken
