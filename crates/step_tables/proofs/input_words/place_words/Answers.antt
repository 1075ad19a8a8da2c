use Rattle.std.proofs.Common.{ℕ, ◌+◌, ◌*◌, ◌∷◌, [], map, length, ap, ◌∙◌, arith}
use Rattle.std.specs.List.{range_with_len}
use Rattle.std.proofs.lemmas.List.{length-append}
use Rattle.std.proofs.lemmas.List.FromFn.{map-range_with_len_more}
use Rattle.statetables.specs.Lanes.{lane}
use Rattle.step_tables.proofs.WordLemmas.{words_turn, places_point}
use Rattle.step_tables.proofs.input_words.place_words.Goals as goal

pub loop-place-preserved : goal.loop-place-preserved
loop-place-preserved c =
    let place = c.loop-place.place in
    let words = c.loop-place.words in
    let long = length-append words (c.place_word.result ∷ []) in
    record {
      len = ap length c.push.ensures ∙ omega (arith, long, c.loop-place.invariant.len);
      are = λ k h.
          let m = 64 * c.args.block + k in
          words_turn k place m c.place_word.result words c.push.new.self c.push.ensures (c.place_word.ensures k h)
          (c.loop-place.invariant.are k h) (map-range_with_len_more (λ (i : ℕ). lane i m) 0 place place (omega arith));
    }

pub returns-clause-is : goal.returns-clause-is
returns-clause-is c = λ k h.
    c.loop-place.invariant.are k h
    ∙ ap (λ n. map (λ i. lane i (64 * c.args.block + k)) (range_with_len 0 n)) (omega (arith, c.loop-place-test.false, c.loop-place.auto.place-end))
    ∙ places_point c.args.places (64 * c.args.block + k)
