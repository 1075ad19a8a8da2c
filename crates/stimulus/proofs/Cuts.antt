-- How a text that is cut at each byte of a kind begins.
use Rattle.std.proofs.Common.{◌≡◌, ℕ, suc, ◌+◌, ◌≤◌, Bool, true, false, not, cond, nat_lt, List, [], ◌∷◌, length, take, drop}
use Rattle.std.proofs.Common.{filter, get_or, Some, None, position, refl, sym, ap, subst, ◌∙◌, arith, drop-cons}
use Rattle.std.proofs.Math.ListN.{drop_of_length-le}
use Rattle.std.proofs.lemmas.List.Elements.{All-from_get_or}
use Rattle.std.proofs.lemmas.List.Splits.{slice_split_first, slice_split_none, slice_split-cons_yes}
use Rattle.std.proofs.lemmas.List.Sums.{fails_before_first}
use Rattle.std.proofs.lemmas.List.Quantifiers.{position-Some}
use Rattle.std.specs.List.{slice_split, onto_first, position_or_len}
use Rattle.std.proofs.lemmas.Bool.{ltb-true, not-true as not_true}
use Rattle.std.proofs.lemmas.Bool.Decides.{nat_tests}
use Rattle.stimulus.specs.Text.{is_blank, is_line_feed, is_word, without_return, ended, lines_of, words_of}

-- what the other parts are, behind the first
abbrev others : {X : Type 0} → (X → Bool) → List X → List (List X)
others p [] = []
others p (x ∷ xs) = slice_split p xs

take_on : {X : Type 0} (x : X) (xs : List X) (n : ℕ) → take (1 + n) (x ∷ xs) ≡ x ∷ take n xs
take_on x xs n = let e : 1 + n ≡ suc n = omega arith in rw e refl

drop_on : {X : Type 0} (x : X) (xs : List X) (n : ℕ) → drop (1 + n) (x ∷ xs) ≡ drop n xs
drop_on x xs n = let e : 1 + n ≡ suc n = omega arith in rw e refl

-- The first part goes up to the first byte of the kind, or to the end.
parted : {X : Type 0} (p : X → Bool) (xs : List X)
    → slice_split p xs ≡ take (position_or_len p xs) xs ∷ others p (drop (position_or_len p xs) xs)
parted p [] = refl
parted {X} p (x ∷ xs) =
    elim (p x) as (λ b. cond b ([] ∷ slice_split p xs) (onto_first x (slice_split p xs)) ≡ take
    (cond (not b) (1 + position_or_len p xs) 0) (x ∷ xs) ∷ others p
    (drop (cond (not b) (1 + position_or_len p xs) 0) (x ∷ xs))) [
      | true ↦ refl
      | false ↦ ap (onto_first x) (parted p xs)
          ∙ sym (rw (take_on x xs (position_or_len p xs), drop_on x xs (position_or_len p xs)) refl)
    ]

chosen_some : (b : Bool) (n i : ℕ) → cond b (Some n) None ≡ Some i → (b ≡ true) × (n ≡ i)
chosen_some true n i e = (refl, cc)
chosen_some false n i e = absurd cc

chosen_none : (b : Bool) (n : ℕ) → cond b (Some n) None ≡ None → b ≡ false
chosen_none true n e = absurd cc
chosen_none false n e = refl

split_found : (p : ℕ → Bool) (xs : List ℕ) (i : ℕ) → position p xs ≡ Some i
    → slice_split p xs ≡ take i xs ∷ slice_split p (drop (i + 1) xs)
split_found p xs i e =
    let (below, here) = chosen_some (nat_lt (position_or_len p xs) (length xs)) (position_or_len p xs) i e in
    subst (λ n. slice_split p xs ≡ take n xs ∷ slice_split p (drop (n + 1) xs)) here
    (slice_split_first p xs 0 (ltb-true (position_or_len p xs) (length xs) below))

split_nowhere : (p : ℕ → Bool) (xs : List ℕ) → position p xs ≡ None → slice_split p xs ≡ xs ∷ []
split_nowhere p xs e =
    let f : nat_lt (position_or_len p xs) (length xs) ≡ false = chosen_none _ _ e in
    let le : length xs ≤ position_or_len p xs = grind (arith, nat_tests, f) in
    slice_split_none p xs
    (All-from_get_or (λ b. p b ≡ false) xs 0 (λ k below. fails_before_first p xs k 0 (omega (arith, below, le))))

-- a line that ends with a line feed, ahead of the others
pub ended_on : (line text : List ℕ)
    → ended (line ∷ slice_split is_line_feed text) ≡ without_return line ∷ ended (slice_split is_line_feed text)
ended_on line text =
    subst (λ parts. ended (line ∷ parts) ≡ without_return line ∷ ended parts) (sym (parted is_line_feed text)) refl

pub line_found : (text : List ℕ) (i : ℕ) → position is_line_feed text ≡ Some i
    → lines_of text ≡ without_return (take i text) ∷ lines_of (drop (i + 1) text)
line_found text i e = ap ended (split_found is_line_feed text i e) ∙ ended_on (take i text) (drop (i + 1) text)

pub last_line : (text : List ℕ) → position is_line_feed text ≡ None → lines_of text ≡ text ∷ []
last_line text e = ap ended (split_nowhere is_line_feed text e)

-- a blank begins no word
words_on_blank : (x : ℕ) (xs : List ℕ) → is_blank x ≡ true → words_of (x ∷ xs) ≡ words_of xs
words_on_blank x xs e = ap (filter is_word) (slice_split-cons_yes is_blank x xs e)

-- blanks at the front are skipped
skipped : (text : List ℕ) → words_of text ≡ words_of (drop (position_or_len (λ b. not (is_blank b)) text) text)
skipped [] = refl
skipped (x ∷ xs) =
    let n : ℕ = position_or_len (λ b. not (is_blank b)) xs in
    elim (is_blank x) as (λ b. is_blank x ≡ b → words_of (x ∷ xs) ≡ words_of (drop (cond (not (not b)) (1 + n) 0) (x ∷ xs))) [
      | true ↦ λ e. words_on_blank x xs e ∙ skipped xs ∙ sym (ap words_of (drop_on x xs n))
      | false ↦ λ e. refl
    ] refl

-- the words behind the first part
rest_words : (text : List ℕ) → filter is_word (others is_blank (drop (position_or_len is_blank text) text)) ≡ words_of
    (drop (position_or_len is_blank text) text)
rest_words [] = refl
rest_words (x ∷ xs) =
    let n : ℕ = position_or_len is_blank xs in
    let behind : ℕ → List (List ℕ) = λ m. filter is_word (others is_blank (drop m (x ∷ xs))) in
    elim (is_blank x) as (λ b. is_blank x ≡ b
    → behind (cond (not b) (1 + n) 0) ≡ words_of (drop (cond (not b) (1 + n) 0) (x ∷ xs))) [
      | true ↦ λ e. sym (words_on_blank x xs e)
      | false ↦ λ e. subst (λ rest. filter is_word (others is_blank rest) ≡ words_of rest) (sym (drop_on x xs n)) (rest_words xs)
    ] refl

kept : (word : List ℕ) (words : List (List ℕ)) (x : ℕ) (xs : List ℕ) → word ≡ x ∷ xs
    → filter is_word (word ∷ words) ≡ word ∷ filter is_word words
kept word words x xs e = subst (λ v. filter is_word (v ∷ words) ≡ v ∷ filter is_word words) (sym e) refl

-- a text that begins with no blank begins with a word, up to the first blank
word_at : (x : ℕ) (xs : List ℕ) → is_blank x ≡ false
    → words_of (x ∷ xs) ≡ take (position_or_len is_blank (x ∷ xs)) (x ∷ xs) ∷ words_of
    (drop (position_or_len is_blank (x ∷ xs)) (x ∷ xs))
word_at x xs e =
    let n : ℕ = position_or_len is_blank xs in
    let m : ℕ = position_or_len is_blank (x ∷ xs) in
    let begins : take m (x ∷ xs) ≡ x ∷ take n xs = ap (λ b. take (cond (not b) (1 + n) 0) (x ∷ xs)) e ∙ take_on x xs n in
    ap (filter is_word) (parted is_blank (x ∷ xs))
    ∙ kept (take m (x ∷ xs)) (others is_blank (drop m (x ∷ xs))) x (take n xs) begins
    ∙ ap (λ words. take m (x ∷ xs) ∷ words) (rest_words (x ∷ xs))

-- what stands from a first byte that is no blank on
record Begins (text : List ℕ) (start : ℕ) : Type 0 where
  x : ℕ
  xs : List ℕ
  is : drop start text ≡ x ∷ xs
  solid : is_blank x ≡ false
  words : words_of text ≡ words_of (x ∷ xs)

begins : (text : List ℕ) (start : ℕ) → position (λ b. not (is_blank b)) text ≡ Some start → Begins text start
begins text start e =
    let p : ℕ → Bool = λ b. not (is_blank b) in
    let (below, here) = chosen_some (nat_lt (position_or_len p text) (length text)) (position_or_len p text) start e in
    let (inside, passes, before) = position-Some p text start 0 e in
    let is : drop start text ≡ get_or text start 0 ∷ drop (suc start) text = drop-cons text start 0 inside in
    record {
      x = get_or text start 0;
      xs = drop (suc start) text;
      is = is;
      solid = not_true (is_blank (get_or text start 0)) passes;
      words = skipped text ∙ ap (λ n. words_of (drop n text)) here ∙ ap words_of is;
    }

pub no_word : (text : List ℕ) → position (λ b. not (is_blank b)) text ≡ None → words_of text ≡ []
no_word text e =
    let p : ℕ → Bool = λ b. not (is_blank b) in
    let f : nat_lt (position_or_len p text) (length text) ≡ false = chosen_none _ _ e in
    let le : length text ≤ position_or_len p text = grind (arith, nat_tests, f) in
    skipped text ∙ ap words_of (drop_of_length-le text le)

pub word_found : (text word : List ℕ) (start end : ℕ) → position (λ b. not (is_blank b)) text ≡ Some start
    → word ≡ drop start text → position is_blank word ≡ Some end → words_of text ≡ take end word ∷ words_of (drop end word)
word_found text word start end e w f =
    let b = begins text start e in
    let same : word ≡ b.x ∷ b.xs = w ∙ b.is in
    let (below, here) = chosen_some (nat_lt (position_or_len is_blank word) (length word)) (position_or_len is_blank word) end f
    in
    b.words ∙ ap words_of (sym same)
    ∙ subst (λ v. words_of v ≡ take (position_or_len is_blank v) v ∷ words_of (drop (position_or_len is_blank v) v))
    (sym same) (word_at b.x b.xs b.solid) ∙ ap (λ n. take n word ∷ words_of (drop n word)) here

pub last_word : (text word : List ℕ) (start : ℕ) → position (λ b. not (is_blank b)) text ≡ Some start → word ≡ drop start text
    → position is_blank word ≡ None → words_of text ≡ word ∷ []
last_word text word start e w f =
    let b = begins text start e in
    let same : word ≡ b.x ∷ b.xs = w ∙ b.is in
    b.words ∙ ap words_of (sym same) ∙ ap (filter is_word) (split_nowhere is_blank word f) ∙ kept word [] b.x b.xs same
