use Rattle.std.proofs.Common.{◌≡◌, ◌&&◌, None, ap, sym, ◌∙◌, rules}
use Rattle.std.specs.Prelude.{slice_get}
use Rattle.statetables.specs.Lanes.{lane, before_at, after_at}
use Rattle.statetables.specs.Step.{inputs_match, current_matches}
use Rattle.statetables.proofs.LaneLemmas.{lane_none, and_false, none_left}
use Rattle.statetables.proofs.table.TableRow.among.Goals as goal

pub returns-then-points-eq0 : goal.returns-then-points-eq0
returns-then-points-eq0 c = λ k.
    none_left k c.columns_among-points.result (lane k c.args.points)
    (inputs_match c.args.self.now.inputs (before_at k c.args.inputs.now) (after_at k c.args.inputs.now))
    (c.columns_among-points.ensures k) c.if-points-eq0.true
    (current_matches c.args.self.now.current c.args.node (lane k c.args.states))

pub returns-in-None : goal.returns-in-None
returns-in-None c =
    let none : slice_get c.args.self.now.current c.args.node ≡ None = search rules in
    λ k. rw none (lane_none k
    ∙ sym (and_false (lane k c.args.points))
    ∙ ap (λ b. lane k c.args.points && b)
    (sym (and_false (inputs_match c.args.self.now.inputs (before_at k c.args.inputs.now) (after_at k c.args.inputs.now)))))
