use Rattle.statetables.specs.Lanes.{lane, before_at, after_at}
use Rattle.statetables.specs.Step.{inputs_match}
use Rattle.statetables.specs.Symbols.{matches_in}
use Rattle.statetables.proofs.LaneLemmas.{none_left}
use Rattle.statetables.proofs.lanes.+matched.Goals as goal

pub returns-then-points-eq0 : goal.returns-then-points-eq0
returns-then-points-eq0 t c = λ k.
    rw (c.in-Some-Some.ensures.cases.0, c.in-Some-Some.ensures'.cases.0)
    (none_left k c.among-points.result (lane k c.args.points)
    (matches_in c.in-Some-Some.symbol.now (lane k c.in-Some-Some.input.now.before) (lane k c.in-Some-Some.input.now.after))
    (c.among-points.ensures k) c.if-points-eq0.true
    (inputs_match c.in-Some-Some.symbols.now (before_at k c.in-Some-Some.inputs.now) (after_at k c.in-Some-Some.inputs.now)))
