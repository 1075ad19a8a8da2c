use Rattle.std.proofs.Common.{map, ap, ◌∙◌}
use Rattle.statetables.specs.Lanes.{lane}
use Rattle.step_tables.specs.Turned.{turned}
use Rattle.step_tables.specs.NodeSteps.{node_next}
use Rattle.step_tables.proofs.node_words.block_words.Goals as goal

pub returns : goal.returns
returns c = record {
  found = λ k h.
      let node = c.args.node in
      c.step_words.ensures k h
      ∙ ap (λ q. node_next node.table.now node.node node.inputs.now node.support.now (turned c.args.place q) q c.args.state)
      (ap (map (lane k)) c.as_slice.ensures ∙ c.place_words-after.ensures.is k h);
}
