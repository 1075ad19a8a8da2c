use Rattle.std.proofs.Common.{◌≡◌, ◌+◌, ◌-◌, suc, ◌++◌, ◌∷◌, [], map, length, take, drop, sym, ap, ◌∙◌, arith}
use Rattle.std.proofs.lemmas.List.{length-map, length-drop, take_all}
use Rattle.statetables.specs.Lanes.{lane}
use Rattle.step_tables.proofs.PointLemmas.{turned_past}
use Rattle.step_tables.proofs.WordLemmas.{lanes_turned}
use Rattle.step_tables.proofs.input_words.turned_words.Goals as goal

pub returns-then-place-words : goal.returns-then-place-words
returns-then-place-words c = λ k h.
    let words = c.args.words.now in
    let long = length-map words (lane k) in
    ap (map (lane k)) (c.append.ensures ∙ ap (λ xs. xs ++ words) c.new-all.ensures)
    ∙ sym (turned_past c.args.place (map (lane k) words) (omega (arith, long, c.if-place-words.true)))

pub returns : goal.returns
returns c = λ k h.
    let words = c.args.words.now in
    let p = c.args.place in
    let next : p + 1 ≡ suc p = omega arith in
    let behind : take (length words - (p + 1)) (drop (p + 1) words) ≡ drop (suc p) words
    = take_all (length words - (p + 1)) (drop (p + 1) words) (omega (arith, length-drop (p + 1) words))
    ∙ ap (λ n. drop n words) next in
    ap (map (lane k))
    (c.append-3.ensures
    ∙ (λ i. c.push.ensures i ++ behind i)
    ∙ ap (λ xs. (xs ++ c.inverted.result ∷ []) ++ drop (suc p) words)
    (c.append-2.ensures ∙ ap (λ xs. xs ++ take p words) c.new-all.ensures))
    ∙ lanes_turned k p c.inverted.result words c.if-place-words.false (c.inverted.ensures k h)
