use Rattle.std.proofs.Common.{◌+◌, drop, ap, ◌∙◌}
use Rattle.std.specs.Option.{option_and_then}
use Rattle.statetables.specs.Lanes.{lane, before_at, after_at, found_at}
use Rattle.statetables.specs.Step.{row_gives, row_of}
use Rattle.statetables.proofs.LaneLemmas.{all_found, row_turn}
use Rattle.statetables.proofs.table.StateTable.step_words.Goals as goal

pub returns-then-words-eq0 : goal.returns-then-words-eq0
returns-then-words-eq0 c = λ k h.
    all_found k c.loop-row.words
    (option_and_then (row_gives c.args.node (lane k c.args.states))
    (row_of (drop c.loop-row.row-index c.as_slice-row-items.result.now) c.args.node (before_at k c.args.inputs.now) (after_at k c.args.inputs.now) (lane k c.args.states)))
    c.if-words-eq0.true
    ∙ c.loop-row.invariant k h

pub loop-row-preserved : goal.loop-row-preserved
loop-row-preserved c = λ k h.
    let rows = c.as_slice-row-items.result.now in
    let before = before_at k c.args.inputs.now in
    let after = after_at k c.args.inputs.now in
    let state = lane k c.args.states in
    c.with_row-words.ensures k (option_and_then (row_gives c.args.node state) (row_of (drop (c.loop-row.row-index + 1) rows) c.args.node before after state))
    ∙ ap (found_at k c.loop-row.words)
    (row_turn c.args.node before after state rows c.loop-row.row-index c.row-item.result c.loop-row-test.true c.row-item.is)
    ∙ c.loop-row.invariant k h
