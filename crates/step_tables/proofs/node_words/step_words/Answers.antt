use Rattle.std.proofs.Common.{◌≡◌, map, ap, ◌∙◌}
use Rattle.statetables.specs.Lanes.{lane, before_at, after_at}
use Rattle.statetables.specs.Step.{table_step}
use Rattle.cell_machine.specs.Values.{no_values, written, picked}
use Rattle.step_tables.specs.Turned.{turned}
use Rattle.step_tables.proofs.node_words.step_words.Goals as goal

pub returns : goal.returns
returns c = λ k h.
    let node = c.args.node in
    let names = node.inputs.now in
    let support = node.support.now in
    let early : before_at k c.as_slice-2.result.now ≡ picked (written no_values support (turned c.args.place (map (lane k) c.args.after.now))) names
    = ap (before_at k) c.as_slice-2.ensures ∙ c.input_words-inputs.ensures.before k
    ∙ ap (λ q. picked (written no_values support q) names) (ap (map (lane k)) c.as_slice.ensures ∙ c.turned_words-before.ensures k h) in
    let late : after_at k c.as_slice-2.result.now ≡ picked (written no_values support (map (lane k) c.args.after.now)) names
    = ap (after_at k) c.as_slice-2.ensures ∙ c.input_words-inputs.ensures.after k in
    c.step_words.ensures k h ∙ (λ i. table_step node.table.now node.node (early i) (late i) (c.word_of_all.ensures k h i))
