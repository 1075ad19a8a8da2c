use Rattle.std.proofs.Common.{refl}
use Rattle.statetables.proofs.LaneLemmas.{lane_all}
use Rattle.statetables.proofs.lanes.StepWords.new.Goals as goal

pub returns : goal.returns
returns c = λ k h later. rw (lane_all k h) refl
