use Rattle.std.proofs.Common.{◌≡◌, ℕ, zero, suc, ◌<◌, true, List, [], ◌∷◌, get_or, refl, ◌∙◌, arith}
use Rattle.std.proofs.lemmas.Bool.{agree_below}
use Rattle.statetables.specs.Lanes.{lane}
use Rattle.step_tables.proofs.WordLemmas.{low_place, high_place}
use Rattle.step_tables.proofs.input_words.place_word.Goals as goal

abbrev low_places : List ℕ
low_places =
    12297829382473034410 ∷ 14757395258967641292 ∷ 17361641481138401520 ∷ 18374966859414961920 ∷ 18446462603027742720
    ∷ 18446744069414584320 ∷ []

-- each of these words agrees with its place at 64 points
agree : (place : ℕ) → place < 6 → agree_below (λ j. lane j (get_or low_places place 0)) (λ j. lane place j) 64 ≡ true
unfolding lane
agree zero h = refl
agree (suc zero) h = refl
agree (suc (suc zero)) h = refl
agree (suc (suc (suc zero))) h = refl
agree (suc (suc (suc (suc zero)))) h = refl
agree (suc (suc (suc (suc (suc zero))))) h = refl
agree (suc (suc (suc (suc (suc (suc place)))))) h = absurd (omega (arith, h))

pub returns-then-place-lt6 : goal.returns-then-place-lt6
returns-then-place-lt6 c = λ k h.
    low_place c.args.place (get_or low_places c.args.place 0) c.args.block k c.if-place-lt6.true
    (agree c.args.place c.if-place-lt6.true) h

pub returns-else-place-lt6 : goal.returns-else-place-lt6
returns-else-place-lt6 c = λ k h.
    c.word_of_all.ensures k h ∙ c.is_set.ensures ∙ high_place c.args.place c.args.block k c.if-place-lt6.false h
