use Rattle.std.proofs.Common.{ap, sym, ◌∙◌}
use Rattle.statetables.specs.Lanes.{lane, before_at, after_at}
use Rattle.statetables.specs.Step.{row_matches, row_gives}
use Rattle.statetables.proofs.LaneLemmas.{lane_none, none_found}
use Rattle.statetables.proofs.lanes.StepWords.with_row.Goals as goal

pub returns-then-points-eq0 : goal.returns-then-points-eq0
returns-then-points-eq0 c = λ k later.
    none_found (lane k c.args.self.undecided) (lane k c.args.self.ones) (lane k c.args.self.zeros)
    (row_matches c.args.node (before_at k c.args.inputs.now) (after_at k c.args.inputs.now) (lane k c.args.states) c.args.row.now)
    (row_gives c.args.node (lane k c.args.states) c.args.row.now) later
    (sym (c.among-points.ensures k) ∙ ap (lane k) c.if-points-eq0.true ∙ lane_none k)
