use Rattle.std.proofs.Common.{sym, ap, ◌∙◌, ◌+◌, ◌++◌, [], ◌∷◌, Some, vec_items, slice_index_or}
use Rattle.bool_functions.proofs.Runs.{by_word, by_blank, by_mark, moved}
use Rattle.bool_functions.specs.Token.{spans, span}
use Rattle.bool_functions.proofs.tokens.spans.Goals as goal
use Rattle.bool_functions.proofs.tokens.spans.Goals.{then-is_word_byte}
use Rattle.bool_functions.proofs.tokens.spans.Goals.{else-is_word_byte+in_ok-push_run+then-not-is_blank+in_ok-push}
use Rattle.bool_functions.proofs.tokens.spans.Goals.{else-is_word_byte+in_ok-push_run+else-not-is_blank}

pub loop-at-preserved : goal.loop-at-preserved
loop-at-preserved c = moved c.args.text.now c.loop-at.found.items c.if-is_word_byte.found.items (spans c.args.text.now) c.loop-at.begun c.if-is_word_byte.begun c.loop-at.at c.loop-at-test.true c.loop-at.invariant
    (λ rest. elim c.if-is_word_byte.branch [
      | then-is_word_byte w ↦ by_word c.loop-at.found.items c.if-is_word_byte.found.items c.loop-at.begun c.if-is_word_byte.begun c.loop-at.at (slice_index_or c.args.text.now c.loop-at.at 0) rest (sym c.is_word_byte.ensures ∙ w.if-is_word_byte.true) (ap vec_items w.found-is) (w.begun-is ∙ ap Some w.unwrap_or.ensures)
      | else-is_word_byte+in_ok-push_run+then-not-is_blank+in_ok-push w ↦ by_mark c.loop-at.found.items c.if-is_word_byte.found.items c.loop-at.begun c.if-is_word_byte.begun c.loop-at.at (slice_index_or c.args.text.now c.loop-at.at 0) rest (sym c.is_word_byte.ensures ∙ w.if-is_word_byte.false) (sym w.is_blank.ensures ∙ w.if-not-is_blank.true) (ap vec_items w.found-is ∙ w.in_ok-push.ensures.items ∙ ap (λ l. l ++ span c.loop-at.at (c.loop-at.at + 1) ∷ []) w.in_ok-push_run.ensures) w.begun-is
      | else-is_word_byte+in_ok-push_run+else-not-is_blank w ↦ by_blank c.loop-at.found.items c.if-is_word_byte.found.items c.loop-at.begun c.if-is_word_byte.begun c.loop-at.at (slice_index_or c.args.text.now c.loop-at.at 0) rest (sym c.is_word_byte.ensures ∙ w.if-is_word_byte.false) (sym w.is_blank.ensures ∙ w.if-not-is_blank.false) (ap vec_items w.found-is ∙ w.in_ok-push_run.ensures) w.begun-is
    ])
