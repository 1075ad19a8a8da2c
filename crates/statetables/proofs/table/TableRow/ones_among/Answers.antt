use Rattle.std.proofs.Common.{◌≡◌, None, sym, ◌∙◌, rules}
use Rattle.std.specs.Prelude.{slice_get}
use Rattle.statetables.specs.Lanes.{lane}
use Rattle.statetables.proofs.LaneLemmas.{lane_none, and_false}
use Rattle.statetables.proofs.table.TableRow.ones_among.Goals as goal

pub returns-in-None : goal.returns-in-None
returns-in-None c =
    let none : slice_get c.args.self.now.next c.args.node ≡ None = search rules in
    λ k. rw none (lane_none k ∙ sym (and_false (lane k c.args.points)))
