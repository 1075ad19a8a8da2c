-- The second bytes of the words of VHDL.
use Rattle.std.proofs.Common.{◌≡◌, ℕ, Bool, true, false, not, List, [], ◌∷◌, ◌<◌, length, get_or, refl, sym, ap, ◌∙◌, arith}
use Rattle.std.specs.Prelude.{codes}
use Rattle.std.specs.List.{list_all, list_any}
use Rattle.std.specs.Str.{bytes_eq, str_eq_ignore_ascii_case, str_to_ascii_lowercase}
use Rattle.std.proofs.lemmas.Slice.Eq.{bytes_eq-Decides}
use Rattle.std.specs.Cmp.{first_so as and_left, second_so as and_right}
use Rattle.vhdl_tokens.specs.SecondBytes.{is_second_of_no_word}
use Rattle.vhdl_tokens.specs.Tokens.{is_one_of}
use Rattle.vhdl_tokens.specs.Words.{vhdl_words, used_words, is_reserved, is_used, is_vhdl_word}

-- the second of the bytes is none of these, and there is one
abbrev pub has_second : List ℕ → Bool
has_second [] = false
has_second (a ∷ []) = false
has_second (a ∷ b ∷ bs) = not (is_one_of (codes "dgjkqvwz123456789_") b)

from_eq : (xs ys : List ℕ) → bytes_eq xs ys ≡ true → xs ≡ ys
from_eq xs ys e = (bytes_eq-Decides xs ys).0 e

-- a name whose second byte is that of no word is none of these
none_of : (name : List ℕ) → has_second (str_to_ascii_lowercase name) ≡ false → (words : List (List ℕ)) →
    list_all (λ word. has_second (str_to_ascii_lowercase word)) words ≡ true
    → list_any (str_eq_ignore_ascii_case name) words ≡ false
none_of name e [] h = refl
none_of name e (w ∷ words) h =
    by (str_eq_ignore_ascii_case name w) refl
    (none_of name e words (and_right (has_second (str_to_ascii_lowercase w))
    (list_all (λ word. has_second (str_to_ascii_lowercase word)) words) h))
  where
    by : (b : Bool) → str_eq_ignore_ascii_case name w ≡ b → list_any (str_eq_ignore_ascii_case name) words ≡ false
        → list_any (str_eq_ignore_ascii_case name) (w ∷ words) ≡ false
    by false f others = rw f others
    by true f others = absurd
        (let s : false ≡ true =
        sym e ∙ ap has_second (from_eq (str_to_ascii_lowercase name) (str_to_ascii_lowercase w) f)
        ∙ and_left (has_second (str_to_ascii_lowercase w)) (list_all (λ word. has_second (str_to_ascii_lowercase word)) words) h
        in
        cc)

reserved_seconds : list_all (λ word. has_second (str_to_ascii_lowercase word)) vhdl_words ≡ true
unfolding vhdl_words
reserved_seconds = refl

used_seconds : list_all (λ word. has_second (str_to_ascii_lowercase word)) used_words ≡ true
unfolding used_words
used_seconds = refl

pub no_word : (name : List ℕ) → has_second (str_to_ascii_lowercase name) ≡ false → is_vhdl_word name ≡ false
unfolding is_reserved is_used
no_word name e = rw (none_of name e vhdl_words reserved_seconds) (none_of name e used_words used_seconds)

-- a name of one byte, or of none
pub short : (name : List ℕ) → length name < 2 → is_vhdl_word name ≡ false
short [] h = no_word [] refl
short (a ∷ []) h = no_word (a ∷ []) refl
short (a ∷ b ∷ bs) h = absurd (omega arith)

-- a longer one, whose second byte is one of these
pub second : (name : List ℕ) → 1 < length name → not (is_second_of_no_word (get_or name 1 0)) ≡ false
    → is_vhdl_word name ≡ false
second [] h e = absurd (omega arith)
second (a ∷ []) h e = absurd (omega arith)
second (a ∷ b ∷ bs) h e = no_word (a ∷ b ∷ bs) e
