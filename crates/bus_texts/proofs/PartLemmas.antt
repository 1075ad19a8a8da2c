-- The parts of a text, one by one.
use Rattle.std.proofs.Common.{◌≡◌, ℕ, zero, suc, ◌+◌, ◌-◌, ◌<◌, ◌≤◌, Bool, true, false, List, [], ◌∷◌, ◌++◌, length, take, drop}
use Rattle.std.proofs.Common.{refl, sym, ap, ◌∙◌, arith, append_assoc, subst, Option, None, Some}
use Rattle.std.specs.List.{prefix_len}
use Rattle.std.specs.Char.{is_ascii_digit}
use Rattle.std.proofs.lemmas.List.{length-take, length-drop, drop-drop}
use Rattle.std.proofs.lemmas.Bool.{and_parts}
use Rattle.bool_functions.specs.Token.{is_word_byte}
use Rattle.bus_texts.specs.Parts.{Part, begins_name, plain_part, name_with, digits_in_front, first_part, parts_behind, parts_of}

behind : (n : ℕ) (s : List ℕ) → parts_behind n s ≡ parts_of (drop n s)
behind zero [] = refl
behind (suc n) [] = refl
behind zero (b ∷ s) = refl
behind (suc n) (b ∷ s) = behind n s

-- how many bytes a part has

take_some : (n : ℕ) (b : ℕ) (s : List ℕ) → 0 < n → 0 < length (take n (b ∷ s))
take_some zero b s h = absurd (omega arith)
take_some (suc n) b s h = omega arith

take_within : (n : ℕ) (s : List ℕ) → length (take n s) ≤ length s
take_within n s = let e = length-take n s in omega arith

named_some : (n b : ℕ) (s : List ℕ) (digits : Option (List ℕ)) → 0 < n → 0 < length (name_with (b ∷ s) n digits).written
named_some n b s None h = take_some n b s h
named_some n b s (Some digits) h = take_some (n + length digits + 2) b s (omega arith)

named_within : (n : ℕ) (s : List ℕ) (digits : Option (List ℕ)) → length (name_with s n digits).written ≤ length s
named_within n s None = take_within n s
named_within n s (Some digits) = take_within (n + length digits + 2) s

pub digits_first :
    (b : ℕ) (s : List ℕ) → begins_name b ≡ false → is_ascii_digit b ≡ true
    → first_part (b ∷ s) ≡ plain_part (b ∷ s) (prefix_len is_ascii_digit (b ∷ s))
digits_first b s e d = rw (e, d) refl

begins : (p : ℕ → Bool) (b : ℕ) (s : List ℕ) → p b ≡ true → 0 < prefix_len p (b ∷ s)
begins p b s h = rw h (omega arith)

pub first_some : (text : List ℕ) → 0 < length text → 0 < length (first_part text).written
first_some [] h = absurd (omega arith)
first_some (b ∷ s) h = by (begins_name b) (is_ascii_digit b) refl refl
  where
    by : (named digit : Bool) → begins_name b ≡ named → is_ascii_digit b ≡ digit → 0 < length (first_part (b ∷ s)).written
    by true digit e d =
        rw e
        (named_some (prefix_len is_word_byte (b ∷ s)) b s (digits_in_front (drop (prefix_len is_word_byte (b ∷ s)) (b ∷ s)))
        (begins is_word_byte b s (and_parts (is_word_byte b) _ e).0))
    by false true e d =
        subst (λ (p : Part). 0 < length p.written) (sym (digits_first b s e d))
        (take_some (prefix_len is_ascii_digit (b ∷ s)) b s (begins is_ascii_digit b s d))
    by false false e d = rw (e, d) (take_some 1 b s (omega arith))

pub first_within : (text : List ℕ) → length (first_part text).written ≤ length text
first_within [] = omega arith
first_within (b ∷ s) = by (begins_name b) (is_ascii_digit b) refl refl
  where
    by : (named digit : Bool) → begins_name b ≡ named → is_ascii_digit b ≡ digit
        → length (first_part (b ∷ s)).written ≤ length (b ∷ s)
    by true digit e d = rw e (named_within (prefix_len is_word_byte (b ∷ s)) (b ∷ s)
        (digits_in_front (drop (prefix_len is_word_byte (b ∷ s)) (b ∷ s))))
    by false true e d =
        subst (λ (p : Part). length p.written ≤ length (b ∷ s)) (sym (digits_first b s e d))
        (take_within (prefix_len is_ascii_digit (b ∷ s)) (b ∷ s))
    by false false e d = rw (e, d) (take_within 1 (b ∷ s))

drop_one : (n b : ℕ) (s : List ℕ) → 0 < n → drop n (b ∷ s) ≡ drop (n - 1) s
drop_one zero b s h = absurd (omega arith)
drop_one (suc n) b s h = let e : suc n - 1 ≡ n = omega arith in rw e refl

-- the first part, and those behind it
pub parts_step : (text : List ℕ) → 0 < length text
    → parts_of text ≡ first_part text ∷ parts_of (drop (length (first_part text).written) text)
parts_step [] h = absurd (omega arith)
parts_step (b ∷ s) h =
    ap (λ (ps : List Part). first_part (b ∷ s) ∷ ps)
    (behind (length (first_part (b ∷ s)).written - 1) s
    ∙ ap parts_of (sym (drop_one (length (first_part (b ∷ s)).written) b s (first_some (b ∷ s) h))))

-- one more part
pub parts_more :
    (text : List ℕ) (at : ℕ) → at < length text
    → parts_of (drop at text) ≡ first_part (drop at text) ∷ parts_of (drop (at + length (first_part (drop at text)).written) text)
parts_more text at within =
    let some : 0 < length (drop at text) = let l = length-drop at text in omega arith in
    parts_step (drop at text) some
    ∙ ap (λ (rest : List ℕ). first_part (drop at text) ∷ parts_of rest)
    (drop-drop (length (first_part (drop at text)).written) at text)

pub parts_turn :
    (text : List ℕ) (at : ℕ) (found : List Part) (part : Part) → at < length text → part ≡ first_part (drop at text)
    → (found ++ part ∷ []) ++ parts_of (drop (at + length part.written) text) ≡ found ++ parts_of (drop at text)
parts_turn text at found part within p =
    append_assoc found (part ∷ []) (parts_of (drop (at + length part.written) text))
    ∙ ap (λ (ps : List Part). found ++ ps)
    (ap (λ (q : Part). q ∷ parts_of (drop (at + length q.written) text)) p ∙ sym (parts_more text at within))
