use Rattle.std.proofs.Common.{◌≡◌, ◌++◌, ◌≤◌, ◌-◌, min, ℕ, List, Bool, map, sym, ap, ◌∙◌, arith}
use Rattle.std.specs.List.{range_with_len}
use Rattle.bool_functions.specs.declared.blocks.NameWord.{NameWord}
use Rattle.bool_functions.specs.Tree.{value_by}
use Rattle.bool_functions.specs.Point.{entry_of}
use Rattle.bool_functions.specs.Block.{word_by, word_at, bits_of}
use Rattle.bool_functions.proofs.WordLemmas.{block_shown, no_points}
use Rattle.bool_functions.proofs.blocks.add_block.Goals as goal

pub returns-then-points-eq0 : goal.returns-then-points-eq0
returns-then-points-eq0 c =
    no_points (λ k. value_by (entry_of c.args.places.now k) c.args.node.now) c.args.values.now.items c.args.start _
    (sym (c.min-points.ensures ∙ ap (λ n. min n 64) c.saturating_sub.ensures) ∙ c.if-points-eq0.true)

pub returns : goal.returns
returns c =
    let f : ℕ → Bool = λ k. value_by (entry_of c.args.places.now k) c.args.node.now in
    let points : c.min-points.result ≡ min (c.args.count - c.args.start) 64 = c.min-points.ensures ∙ ap (λ n. min n 64) c.saturating_sub.ensures in
    let few : c.min-points.result ≤ 64 = omega arith in
    c.in_ok-push_bits.ensures
    ∙ ap (λ bs. c.args.values.now.items ++ bs)
    (ap (bits_of c.min-points.result) (c.node_word-word.ensures ∙ ap (λ (ws : List NameWord). word_by (word_at ws) c.args.node.now) (c.deref.ensures.value ∙ c.in_ok-words.ensures))
    ∙ block_shown c.args.node.now c.args.places.now c.args.start c.min-points.result few
    ∙ ap (λ n. map f (range_with_len c.args.start n)) points)
