use Rattle.std.proofs.Common.{refl, ◌∙◌, ap, drop}
use Rattle.timing_arcs.proofs.FoldedWords.{word_turn}
use Rattle.timing_arcs.proofs.tables.Sum.add_text.Goals as goal

pub loop-left-preserved : goal.loop-left-preserved
loop-left-preserved c =
    word_turn c.args.unit c.args.at c.loop-left.self c.add_front.new.self c.loop-left.left.now _ _ c.behind_first-left.result.now refl
    (c.split_at.ensures.back ∙ ap (λ n. drop n c.loop-left.left.now) c.add_front.ensures.length)
    c.behind_first-left.ensures c.add_front.ensures.sum
    ∙ c.loop-left.invariant
