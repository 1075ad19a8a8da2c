use Rattle.statetables.proofs.LaneLemmas.{lane_either}
use Rattle.statetables.proofs.lanes.either.Goals as goal

pub returns : goal.returns
returns c = lane_either c.args.left c.args.right
