use Rattle.std.proofs.lemmas.List.{get_or_default}
use Rattle.stimulus.proofs.Runs.{next_proper}
use Rattle.stimulus.proofs.differences.first_difference.Goals as goal

pub step-requires-clause-time : goal.step-requires-clause-time
step-requires-clause-time g c =
    let alike = c.loop-change.invariant.alike in
    let next = next_proper _ alike.history c.args.changes.now c.loop-change.change-index _ c.loop-change-test.true (get_or_default _ _ _ _ c.loop-change-test.true) alike.proper in
    (alike.history, (alike.left_stands, next.1))

pub step-requires-in-loop-change-clause-time : goal.step-requires-in-loop-change-clause-time
step-requires-in-loop-change-clause-time g c =
    let alike = c.loop-change.invariant.alike in
    let next = next_proper _ alike.history c.args.changes.now c.loop-change.change-index _ c.loop-change-test.true (get_or_default _ _ _ _ c.loop-change-test.true) alike.proper in
    (alike.history, (alike.right_stands, next.1))
