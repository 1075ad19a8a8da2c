-- What names and words of VHDL text are, and which are the same.
use Rattle.std.proofs.Common.{◌≡◌, ℕ, ◌^◌, ◌<◌, Bool, true, false, not, ◌&&◌, ◌||◌, ◌==◌, nat_eq, if◌then◌else◌, List, [], ◌∷◌}
use Rattle.std.proofs.Common.{None, refl, sym, ap, ◌∙◌, arith, subst, decimal}
use Rattle.std.proofs.lemmas.Bool.{and_parts, and_from, eqb-true, true≢false, not-true as is_other}
use Rattle.std.proofs.lemmas.Bool.{or_from as neither, and_right as and_no}
use Rattle.std.proofs.lemmas.Bool.Decides.{nat_tests, same_from_decides}
use Rattle.std.proofs.lemmas.Fmt.{decimal_is_IsNumeral}
use Rattle.std.proofs.lemmas.Slice.Eq.{bytes_eq-Decides}
use Rattle.std.specs.Char.{is_ascii_alphabetic, is_ascii_alphanumeric, is_ascii_digit, to_ascii_lowercase}
use Rattle.std.specs.Str.{bytes_eq, str_eq_ignore_ascii_case, str_to_ascii_lowercase}
use Rattle.std.specs.List.{list_all, list_any}
use Rattle.vhdl_tokens.specs.Words.{is_word, is_vhdl_word, is_reserved, is_used, vhdl_words, used_words}
use Rattle.vhdl_tokens.specs.Kept.{is_plain}
use Rattle.vhdl_tokens.specs.Tokens.{is_name_byte, is_name}
use Rattle.vhdl_tokens.specs.Numbers.{number_of}
use Rattle.vhdl_tokens.specs.Spelling.{is_character, is_same}
use Rattle.vhdl_grammar.specs.WellFormed.{is_spelled_as_name, IsEntityName, IsPortName}
use Rattle.grammar_reader.proofs.Bytes.{all_digits}
use Rattle.grammar_reader.proofs.ItemPlaces.{same_bytes}

-- A name: it is spelled as one, and is no word.
pub record IsNamed (x : List ℕ) : Type 0 where
  pub identifier : is_spelled_as_name x ≡ true
  pub named : is_name x ≡ true

is_named : (x : List ℕ) → is_spelled_as_name x ≡ true → not (is_vhdl_word x) ≡ true → IsNamed x
is_named [] h n = absurd cc
is_named (b ∷ w) h n = record {
  identifier = h;
  named =
      and_from (is_ascii_alphabetic b) (not (is_vhdl_word (b ∷ w)))
      (and_parts (is_ascii_alphabetic b) (list_all is_name_byte w) h).0 n;
}

pub entity_named : (x : List ℕ) → IsEntityName x → IsNamed x
entity_named x n = is_named x n.identifier n.no_word

in_name : (c : ℕ) → is_ascii_alphanumeric c ≡ true → is_name_byte c ≡ true
in_name c h = rw h refl

all_in_name : (w : List ℕ) → list_all is_ascii_alphanumeric w ≡ true → list_all is_name_byte w ≡ true
all_in_name [] h = refl
all_in_name (c ∷ w) h =
    let p = and_parts (is_ascii_alphanumeric c) (list_all is_ascii_alphanumeric w) h in
    and_from (is_name_byte c) (list_all is_name_byte w) (in_name c p.0) (all_in_name w p.1)

plain_spelled : (x : List ℕ) → is_plain x ≡ true → is_spelled_as_name x ≡ true
plain_spelled [] h = absurd cc
plain_spelled (b ∷ w) h =
    let p = and_parts (is_ascii_alphabetic b) (list_all is_ascii_alphanumeric w) h in
    and_from (is_ascii_alphabetic b) (list_all is_name_byte w) p.0 (all_in_name w p.1)

pub port_named : (x : List ℕ) → IsPortName x → IsNamed x
port_named x n = is_named x (plain_spelled x n.plain) n.no_word

-- The names of numbered parts.

-- no word has `_` as its second byte
abbrev pub other_second : List ℕ → Bool
other_second [] = true
other_second (a ∷ []) = true
other_second (a ∷ c ∷ w) = not (nat_eq 95 (to_ascii_lowercase c))

pub unlike_scored : (b : ℕ) (ds w : List ℕ) → other_second w ≡ true → str_eq_ignore_ascii_case (b ∷ 95 ∷ ds) w ≡ false
unlike_scored b ds [] h = refl
unlike_scored b ds (a ∷ []) h = and_no (nat_eq (to_ascii_lowercase b) (to_ascii_lowercase a)) false refl
unlike_scored b ds (a ∷ c ∷ w) h =
    and_no (nat_eq (to_ascii_lowercase b) (to_ascii_lowercase a))
    (nat_eq 95 (to_ascii_lowercase c) && bytes_eq (str_to_ascii_lowercase ds) (str_to_ascii_lowercase w))
    (rw (is_other (nat_eq 95 (to_ascii_lowercase c)) h) refl)

none_scored : (b : ℕ) (ds : List ℕ) (words : List (List ℕ)) → list_all other_second words ≡ true
    → is_word words (b ∷ 95 ∷ ds) ≡ false
none_scored b ds [] h = refl
none_scored b ds (w ∷ words) h =
    let p = and_parts (other_second w) (list_all other_second words) h in
    rw (unlike_scored b ds w p.0) (none_scored b ds words p.1)

reserved_unscored : list_all other_second vhdl_words ≡ true
unfolding vhdl_words
reserved_unscored = refl

used_unscored : list_all other_second used_words ≡ true
unfolding used_words
used_unscored = refl

pub scored_no_word : (b : ℕ) (ds : List ℕ) → is_vhdl_word (b ∷ 95 ∷ ds) ≡ false
unfolding is_reserved is_used
scored_no_word b ds =
    neither (is_reserved (b ∷ 95 ∷ ds)) (is_used (b ∷ 95 ∷ ds)) (none_scored b ds vhdl_words reserved_unscored)
    (none_scored b ds used_words used_unscored)

pub digit_in_name : (c : ℕ) → is_ascii_digit c ≡ true → is_name_byte c ≡ true
digit_in_name c h = grind (arith, nat_tests)

digits_in_name : (x : List ℕ) → list_all is_ascii_digit x ≡ true → list_all is_name_byte x ≡ true
digits_in_name [] h = refl
digits_in_name (c ∷ x) h =
    let p = and_parts (is_ascii_digit c) (list_all is_ascii_digit x) h in
    and_from (is_name_byte c) (list_all is_name_byte x) (digit_in_name c p.0) (digits_in_name x p.1)

-- a letter, `_` and a number are a name
pub part_named : (b n : ℕ) → is_ascii_alphabetic b ≡ true → n < 2 ^ 64 → IsNamed (b ∷ 95 ∷ decimal n)
part_named b n l h =
    is_named (b ∷ 95 ∷ decimal n)
    (and_from (is_ascii_alphabetic b) (list_all is_name_byte (95 ∷ decimal n)) l
    (digits_in_name (decimal n) (all_digits (decimal n) (decimal_is_IsNumeral n h).0.1)))
    (ap not (scored_no_word b (decimal n)))

-- The same.

both_same : (b p q : Bool) → p ≡ true → q ≡ true → (if b then p else q) ≡ true
both_same true p q e f = e
both_same false p q e f = f

pub same_case : (x : List ℕ) → str_eq_ignore_ascii_case x x ≡ true
same_case x = same_bytes (str_to_ascii_lowercase x)

pub same_self : (x : List ℕ) → is_same x x ≡ true
same_self x = both_same (is_character x) (bytes_eq x x) (str_eq_ignore_ascii_case x x) (same_bytes x) (same_case x)

bytes_turned : (x y : List ℕ) → bytes_eq x y ≡ bytes_eq y x
bytes_turned x y =
    same_from_decides (bytes_eq x y) (bytes_eq y x) (bytes_eq-Decides x y)
    (λ e. sym ((bytes_eq-Decides y x).0 e), λ e. (bytes_eq-Decides y x).1 (sym e))

pub case_turned : (x y : List ℕ) → str_eq_ignore_ascii_case x y ≡ str_eq_ignore_ascii_case y x
case_turned x y = bytes_turned (str_to_ascii_lowercase x) (str_to_ascii_lowercase y)

-- what begins with a letter is no character literal
pub same_letters : (b : ℕ) (x y : List ℕ) → is_ascii_alphabetic b ≡ true → is_same (b ∷ x) y ≡ str_eq_ignore_ascii_case (b ∷ x) y
same_letters b x y e = by (b == 39) refl
  where
    by : (q : Bool) → (b == 39) ≡ q → (if q then bytes_eq (b ∷ x) y
        else str_eq_ignore_ascii_case (b ∷ x) y) ≡ str_eq_ignore_ascii_case (b ∷ x) y
    by true h = absurd (true≢false (sym (subst (λ (c : ℕ). is_ascii_alphabetic c ≡ true) (eqb-true b 39 h) e)))
    by false h = refl

pub same_name : (x y : List ℕ) → IsNamed x → is_same x y ≡ str_eq_ignore_ascii_case x y
same_name [] y n = absurd (cc n.identifier)
same_name (b ∷ x) y n = same_letters b x y (and_parts (is_ascii_alphabetic b) (list_all is_name_byte x) n.identifier).0

-- a name is no word
no_word : (x : List ℕ) → IsNamed x → is_vhdl_word x ≡ false
no_word [] n = absurd (cc n.identifier)
no_word (b ∷ x) n = is_other (is_vhdl_word (b ∷ x)) (and_parts (is_ascii_alphabetic b) (not (is_vhdl_word (b ∷ x))) n.named).1

same_word : (x w : List ℕ) → str_to_ascii_lowercase x ≡ str_to_ascii_lowercase w → is_vhdl_word x ≡ is_vhdl_word w
unfolding is_reserved is_used
same_word x w e =
    ap (λ (l : List ℕ). list_any (λ y. bytes_eq l (str_to_ascii_lowercase y)) vhdl_words
    || list_any (λ y. bytes_eq l (str_to_ascii_lowercase y)) used_words) e

pub unlike_word : (x w : List ℕ) → IsNamed x → is_vhdl_word w ≡ true → is_same x w ≡ false
unlike_word x w n e = same_name x w n ∙ by (str_eq_ignore_ascii_case x w) refl
  where
    by : (t : Bool) → str_eq_ignore_ascii_case x w ≡ t → t ≡ false
    by true h =
        let same : is_vhdl_word x ≡ true =
        same_word x w ((bytes_eq-Decides (str_to_ascii_lowercase x) (str_to_ascii_lowercase w)).0 h) ∙ e in
        absurd (true≢false (sym same ∙ no_word x n))
    by false h = refl

-- a name is no number
pub unnumbered : (x : List ℕ) → IsNamed x → number_of x ≡ None
unnumbered [] n = absurd (cc n.identifier)
unnumbered (b ∷ w) n = rw (digit_no b (and_parts (is_ascii_alphabetic b) (list_all is_name_byte w) n.identifier).0) refl
  where
    digit_no : (b : ℕ) → is_ascii_alphabetic b ≡ true → is_ascii_digit b ≡ false
    digit_no b e = grind (arith, nat_tests)
