-- What is folded over the words of a text, one word after another.
use Rattle.std.proofs.Common.{◌≡◌, ℕ, Option, suc, Bool, true, false, not, List, [], ◌∷◌, length, take, drop, ◌==◌, refl, sym}
use Rattle.std.proofs.Common.{◌∙◌, ap, cond}
use Rattle.std.specs.Prelude.{fold, filter}
use Rattle.std.specs.List.{slice_split, onto_first}
use Rattle.liberty_groups.specs.Attributes.{words_between}
use Rattle.liberty_text.specs.declared.time.Unit.{Unit as TimeUnit}
use Rattle.timing_arcs.specs.declared.tables.Sum.{Sum}
use Rattle.timing_arcs.specs.Tables.{is_separator}
use Rattle.timing_arcs.specs.Sums.{with_entry, with_text}
use Rattle.timing_arcs.specs.Words.{word_length, with_word}

-- the parts behind the first
abbrev rest_parts : (ℕ → Bool) → List ℕ → List (List ℕ)
rest_parts is_separator [] = []
rest_parts is_separator (b ∷ bs) = slice_split is_separator bs

first_part : (is_separator : ℕ → Bool) (text : List ℕ) →
    slice_split is_separator text ≡ take (word_length is_separator text) text ∷ rest_parts is_separator
    (drop (word_length is_separator text) text)
first_part is_separator [] = refl
first_part is_separator (b ∷ bs) = by_test (first_part is_separator bs) (is_separator b)
  where
    by_test : slice_split is_separator bs ≡ take (word_length is_separator bs) bs ∷ rest_parts is_separator
        (drop (word_length is_separator bs) bs) → (q : Bool) →
        cond q ([] ∷ slice_split is_separator bs) (onto_first b (slice_split is_separator bs))
        ≡ take (cond q 0 (suc (word_length is_separator bs))) (b ∷ bs) ∷ rest_parts is_separator
        (drop (cond q 0 (suc (word_length is_separator bs))) (b ∷ bs))
    by_test next true = refl
    by_test next false = ap (onto_first b) next

abbrev some : List ℕ → Bool
some word = not (length word == 0)

-- behind the separator, if there is one, the same words follow
behind : (is_separator : ℕ → Bool) (text : List ℕ)
    → filter some (rest_parts is_separator text) ≡ words_between is_separator (drop 1 text)
behind is_separator [] = refl
behind is_separator (b ∷ bs) = refl

fold_turn : {S : Type 0} (is_separator : ℕ → Bool) (with : S → List ℕ → S) (sum : S) (text : List ℕ) →
    fold with sum (words_between is_separator text)
    ≡ fold with (cond (length (take (word_length is_separator text) text) == 0) sum
    (with sum (take (word_length is_separator text) text)))
    (words_between is_separator (drop 1 (drop (word_length is_separator text) text)))
fold_turn is_separator with sum text =
    let word = take (word_length is_separator text) text in
    let left = drop (word_length is_separator text) text in
    ap (λ parts. fold with sum (filter some parts)) (first_part is_separator text)
    ∙ by_test (length word == 0) word (rest_parts is_separator left)
    ∙ ap (fold with (cond (length word == 0) sum (with sum word))) (behind is_separator left)
  where
    by_test : (q : Bool) (word : List ℕ) (parts : List (List ℕ))
        → fold with sum (cond (not q) (word ∷ filter some parts) (filter some parts)) ≡ fold with (cond q sum (with sum word))
        (filter some parts)
    by_test true word parts = refl
    by_test false word parts = refl

-- the first word joins the sum
pub word_turn : (unit : Option TimeUnit) (at : ℕ) (sum after : Sum) (left word behind_word next : List ℕ) →
    word ≡ take (word_length is_separator left) left → behind_word ≡ drop (word_length is_separator left) left
    → next ≡ drop 1 behind_word →
    after ≡ with_word unit at sum word → with_text unit at after next ≡ with_text unit at sum left
word_turn unit at sum after left word behind_word next e f g h =
    ap (λ s. with_text unit at s next) (h ∙ ap (with_word unit at sum) e)
    ∙ ap (with_text unit at (with_word unit at sum (take (word_length is_separator left) left))) (g ∙ ap (drop 1) f)
    ∙ sym (fold_turn is_separator (with_entry unit at) sum left)
