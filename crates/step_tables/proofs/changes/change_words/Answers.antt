use Rattle.std.proofs.Common.{List, ◌∷◌, [], length, slice_get, sym, ap, subst, ◌∙◌, arith}
use Rattle.std.proofs.lemmas.List.{length-append}
use Rattle.statetables.specs.declared.lanes.StepWords.{StepWords}
use Rattle.step_tables.specs.NodeSteps.{TellChange}
use Rattle.step_tables.proofs.PointLemmas.{push_each}
use Rattle.step_tables.proofs.changes.change_words.Goals as goal

pub loop-number-preserved : goal.loop-number-preserved
loop-number-preserved c =
    let node = c.args.node in
    let words = c.loop-number.words in
    let word = c.word_at-in-loop-number.result in
    let tells = TellChange node.table.now node.node node.inputs.now node.support.now in
    let long = length-append words (word ∷ []) in
    record {
      len = ap length c.push.ensures ∙ omega (arith, long, c.loop-number.invariant.len);
      each = λ j w at.
          push_each tells words word c.loop-number.invariant.each
          (subst (λ n. tells n word) (sym c.loop-number.invariant.len) c.word_at-in-loop-number.ensures)
          j w (ap (λ (xs : List StepWords). slice_get xs j) (sym c.push.ensures) ∙ at);
    }
