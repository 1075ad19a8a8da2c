-- The names of generated entities and of their ports, which no case of letters makes equal.
use Rattle.std.proofs.Common.{◌≡◌, ℕ, ◌+◌, ◌^◌, ◌<◌, ◌≤◌, Bool, true, false, not, ◌&&◌, ◌||◌, ◌==◌, ◌⊎◌, inl, inr}
use Rattle.std.proofs.Common.{IsTrue, List, [], ◌∷◌, ◌++◌, map, refl, sym, ap, ◌∙◌, subst, arith, codes, decimal, nat_le, is_some}
use Rattle.std.proofs.Common.{if◌then◌else◌}
use Rattle.std.specs.Char.{is_ascii_alphabetic, is_ascii_alphanumeric, is_ascii_digit, is_ascii_uppercase, is_ascii_lowercase}
use Rattle.std.specs.Char.{to_ascii_lowercase}
use Rattle.std.specs.List.{list_all}
use Rattle.std.specs.Str.{str_eq_ignore_ascii_case}
use Rattle.std.proofs.lemmas.Bool.{and_parts, and_from, not-true, true≢false, cases_Bool, leb-true, eq-eqb, or_right as or_true}
use Rattle.std.proofs.lemmas.Bool.{cases_lt}
use Rattle.std.proofs.lemmas.Fmt.{decimal_injective}
use Rattle.std.proofs.lemmas.List.{append_cancel_left, map-append}
use Rattle.std.proofs.lemmas.Slice.Eq.{bytes_eq-Decides}
use Rattle.std.proofs.lemmas.Str.Ascii.{lowercase_is}
use Rattle.bool_functions.specs.NameList.{number_of}
use Rattle.verilog_tokens.specs.Numbers as verilog
use Rattle.vhdl_tokens.specs.Words.{is_vhdl_word, is_reserved, is_used, vhdl_words, used_words}
use Rattle.vhdl_tokens.specs.Kept.{goes_on, is_identifier, is_number, begins, is_numbered, is_free, lowered}
use Rattle.vhdl_tokens.specs.Tokens.{is_name_byte}
use Rattle.vital_models.specs.Kept.{is_kept_entity_name, entity_name}
use Rattle.vhdl_grammar.specs.WellFormed.{is_spelled_as_name, IsEntityName, IsPortName}
use Rattle.generated_modules.proofs.NumberedNames.{decimal_digits}
use Rattle.generated_modules.proofs.NameLists.{all_weaker}

-- numbers in names
pub decimal_number : (n : ℕ) → n < 2 ^ 64 → IsTrue (is_number (decimal n))
decimal_number n h = by (decimal n) (decimal_digits n h)
  where
    by : (ds : List ℕ) → IsTrue (verilog.is_number ds) → IsTrue (is_number ds)
    by [] h = absurd cc
    by (d ∷ ds) h = h

pub number_digits : (ds : List ℕ) → IsTrue (is_number ds) → IsTrue (list_all is_ascii_digit ds)
number_digits [] h = absurd cc
number_digits (d ∷ ds) h = h

digit_below : (d : ℕ) → IsTrue (is_ascii_digit d) → d < 65
digit_below d h = let parts = and_parts (nat_le 48 d) (nat_le d 57) h in let most : d ≤ 57 = leb-true d 57 parts.1
    in omega (arith, most)

digit_lower : (d : ℕ) → IsTrue (is_ascii_digit d) → to_ascii_lowercase d ≡ d
digit_lower d h = (lowercase_is d).1 (digit_below d h)

digits_lower : (ds : List ℕ) → IsTrue (list_all is_ascii_digit ds) → map to_ascii_lowercase ds ≡ ds
digits_lower [] h = refl
digits_lower (d ∷ ds) h =
    let parts = and_parts (is_ascii_digit d) (list_all is_ascii_digit ds) h in
    ap (λ x. x ∷ map to_ascii_lowercase ds) (digit_lower d parts.0) ∙ ap (λ l. d ∷ l) (digits_lower ds parts.1)

-- a byte whose lower case is a digit
lower_digit : (b d : ℕ) → IsTrue (is_ascii_digit d) → to_ascii_lowercase b ≡ d → b ≡ d
lower_digit b d h e =
    let laws = lowercase_is b in
    let below = digit_below d h in
    by (cases_lt b 65) below laws.1 laws.2 laws.0
  where
    by : (b < 65) ⊎ (65 ≤ b) → d < 65 → (b < 65 → to_ascii_lowercase b ≡ b) → (90 < b → to_ascii_lowercase b ≡ b)
        → ((65 ≤ b) × (b ≤ 90) → to_ascii_lowercase b ≡ b + 32) → b ≡ d
    by (inl low) below small large upper = let same = small low in omega (arith, same, e)
    by (inr high) below small large upper =
        elim (cases_lt 90 b) [
          | inl more ↦ let same = large more in omega (arith, same, e)
          | inr less ↦ let same = upper (high, less) in absurd (omega (arith, same, e, below))
        ]

lower_digits : (bs ds : List ℕ) → IsTrue (list_all is_ascii_digit ds) → map to_ascii_lowercase bs ≡ ds → bs ≡ ds
lower_digits [] [] h e = refl
lower_digits [] (d ∷ ds) h e = absurd cc
lower_digits (b ∷ bs) [] h e = absurd cc
lower_digits (b ∷ bs) (d ∷ ds) h e =
    let parts = and_parts (is_ascii_digit d) (list_all is_ascii_digit ds) h in
    let first : to_ascii_lowercase b ≡ d = cc in
    let rest : map to_ascii_lowercase bs ≡ ds = cc in
    ap (λ x. x ∷ bs) (lower_digit b d parts.0 first) ∙ ap (λ l. d ∷ l) (lower_digits bs ds parts.1 rest)

digit_alphanumeric : (d : ℕ) → IsTrue (is_ascii_digit d) → IsTrue (is_ascii_alphanumeric d)
digit_alphanumeric d h = by (is_ascii_digit d) (is_ascii_uppercase d) (is_ascii_lowercase d) h
  where
    by : (b upper lower : Bool) → IsTrue b → IsTrue ((b || upper) || lower)
    by true upper lower h = refl
    by false upper lower h = absurd cc

digits_plain : (ds : List ℕ) → IsTrue (list_all is_ascii_digit ds) → IsTrue (list_all is_ascii_alphanumeric ds)
digits_plain ds h = all_weaker is_ascii_digit is_ascii_alphanumeric digit_alphanumeric ds h

-- what is spelled
alphanumeric_in_name : (b : ℕ) → IsTrue (is_ascii_alphanumeric b) → IsTrue (is_name_byte b)
alphanumeric_in_name b h = ap (λ t. t || b == 95) h

plain_in_name : (bs : List ℕ) → IsTrue (list_all is_ascii_alphanumeric bs) → IsTrue (list_all is_name_byte bs)
plain_in_name bs h = all_weaker is_ascii_alphanumeric is_name_byte alphanumeric_in_name bs h

going_in_name : (under : Bool) (bs : List ℕ) → IsTrue (goes_on under bs) → IsTrue (list_all is_name_byte bs)
going_in_name under [] h = refl
going_in_name under (b ∷ bs) h = by (b == 95) refl h (going_in_name true bs) (going_in_name false bs)
  where
    by :
        (t : Bool) → (b == 95) ≡ t → IsTrue (if t then not under && goes_on true bs else is_ascii_alphanumeric b
        && goes_on false bs)
        → (IsTrue (goes_on true bs) → IsTrue (list_all is_name_byte bs))
        → (IsTrue (goes_on false bs) → IsTrue (list_all is_name_byte bs))
        → IsTrue (list_all is_name_byte (b ∷ bs))
    by true e k more other =
        and_from (is_name_byte b) (list_all is_name_byte bs) (or_true (is_ascii_alphanumeric b) (b == 95) e)
        (more (and_parts (not under) (goes_on true bs) k).1)
    by false e k more other =
        let parts = and_parts (is_ascii_alphanumeric b) (goes_on false bs) k in
        and_from (is_name_byte b) (list_all is_name_byte bs) (alphanumeric_in_name b parts.0) (other parts.1)

identifier_spelled : (name : List ℕ) → IsTrue (is_identifier name) → IsTrue (is_spelled_as_name name)
identifier_spelled [] h = absurd cc
identifier_spelled (b ∷ bs) h =
    let parts = and_parts (is_ascii_alphabetic b) (goes_on false bs) h in
    and_from (is_ascii_alphabetic b) (list_all is_name_byte bs) parts.0 (going_in_name false bs parts.1)

-- names that are a word with a number behind it

pub pin_number : (n : ℕ) → n < 2 ^ 64 → IsPortName (codes "pin" ++ decimal n)
unfolding is_reserved is_used vhdl_words used_words
pin_number n h = by (decimal n) (number_digits (decimal n) (decimal_number n h))
  where
    by : (ds : List ℕ) → IsTrue (list_all is_ascii_digit ds) → IsPortName (codes "pin" ++ ds)
    by ds k = record { plain = digits_plain ds k; no_word = refl }

pub cell_number : (n : ℕ) → n < 2 ^ 64 → IsEntityName (codes "cell" ++ decimal n)
unfolding is_reserved is_used vhdl_words used_words
cell_number n h = by (decimal n) (number_digits (decimal n) (decimal_number n h))
  where
    by : (ds : List ℕ) → IsTrue (list_all is_ascii_digit ds) → IsEntityName (codes "cell" ++ ds)
    by ds k = record { identifier = plain_in_name ds (digits_plain ds k); no_word = refl }

-- names that are equal but for the case of their letters
pub same_lower : (x y : List ℕ) → str_eq_ignore_ascii_case x y ≡ true → map to_ascii_lowercase x ≡ map to_ascii_lowercase y
same_lower x y e = (bytes_eq-Decides (map to_ascii_lowercase x) (map to_ascii_lowercase y)).0 e

pub unlike_lower : (x y : List ℕ) → (map to_ascii_lowercase x ≡ map to_ascii_lowercase y → ⊥)
    → str_eq_ignore_ascii_case x y ≡ false
unlike_lower x y h =
    elim (cases_Bool (str_eq_ignore_ascii_case x y)) [
      | inl e ↦ absurd (h (same_lower x y e))
      | inr e ↦ e
    ]

-- a word in lower case, with digits behind it
word_lower : (word ds : List ℕ) → map to_ascii_lowercase word ≡ word → IsTrue (list_all is_ascii_digit ds)
    → map to_ascii_lowercase (word ++ ds) ≡ word ++ ds
word_lower word ds e h =
    map-append to_ascii_lowercase word ds ∙ ap (λ l. l ++ map to_ascii_lowercase ds) e ∙ ap (λ l. word ++ l) (digits_lower ds h)

number_lower : (word : List ℕ) (n : ℕ) → map to_ascii_lowercase word ≡ word → n < 2 ^ 64
    → map to_ascii_lowercase (word ++ decimal n) ≡ word ++ decimal n
number_lower word n e h = word_lower word (decimal n) e (number_digits (decimal n) (decimal_number n h))

-- what is like a word with a number behind it begins so, and has the number
equal_bytes : (a b : ℕ) → a ≡ b → (b == a) ≡ true
equal_bytes a b e = eq-eqb b a (sym e)

pub like_pin : (x ds : List ℕ) → IsTrue (is_number ds) → map to_ascii_lowercase x ≡ codes "pin" ++ ds
    → is_numbered (codes "pin") x ≡ true
like_pin [] ds h e = absurd cc
like_pin (a ∷ []) ds h e = absurd cc
like_pin (a ∷ b ∷ []) ds h e = absurd cc
like_pin (a ∷ b ∷ c ∷ x) ds h e =
    let first : to_ascii_lowercase a ≡ 112 = cc in
    let second : to_ascii_lowercase b ≡ 105 = cc in
    let third : to_ascii_lowercase c ≡ 110 = cc in
    let rest : map to_ascii_lowercase x ≡ ds = cc in
    let same : x ≡ ds = lower_digits x ds (number_digits ds h) rest in
    and_from (begins (codes "pin") (a ∷ b ∷ c ∷ x)) (is_number x)
    (and_from (112 == to_ascii_lowercase a) _ (equal_bytes (to_ascii_lowercase a) 112 first)
    (and_from (105 == to_ascii_lowercase b) _ (equal_bytes (to_ascii_lowercase b) 105 second)
    (and_from (110 == to_ascii_lowercase c) true (equal_bytes (to_ascii_lowercase c) 110 third) refl)))
    (subst (λ l. IsTrue (is_number l)) (sym same) h)

pub like_cell : (x ds : List ℕ) → IsTrue (is_number ds) → map to_ascii_lowercase x ≡ codes "cell" ++ ds
    → is_numbered (codes "cell") x ≡ true
like_cell [] ds h e = absurd cc
like_cell (a ∷ []) ds h e = absurd cc
like_cell (a ∷ b ∷ []) ds h e = absurd cc
like_cell (a ∷ b ∷ c ∷ []) ds h e = absurd cc
like_cell (a ∷ b ∷ c ∷ d ∷ x) ds h e =
    let first : to_ascii_lowercase a ≡ 99 = cc in
    let second : to_ascii_lowercase b ≡ 101 = cc in
    let third : to_ascii_lowercase c ≡ 108 = cc in
    let fourth : to_ascii_lowercase d ≡ 108 = cc in
    let rest : map to_ascii_lowercase x ≡ ds = cc in
    let same : x ≡ ds = lower_digits x ds (number_digits ds h) rest in
    and_from (begins (codes "cell") (a ∷ b ∷ c ∷ d ∷ x)) (is_number x)
    (and_from (99 == to_ascii_lowercase a) _ (equal_bytes (to_ascii_lowercase a) 99 first)
    (and_from (101 == to_ascii_lowercase b) _ (equal_bytes (to_ascii_lowercase b) 101 second)
    (and_from (108 == to_ascii_lowercase c) _ (equal_bytes (to_ascii_lowercase c) 108 third)
    (and_from (108 == to_ascii_lowercase d) true (equal_bytes (to_ascii_lowercase d) 108 fourth) refl))))
    (subst (λ l. IsTrue (is_number l)) (sym same) h)

-- a name that is no word with a number is unlike each such
no_number :
    (word : List ℕ) → map to_ascii_lowercase word ≡ word
    → ((x ds : List ℕ) → IsTrue (is_number ds) → map to_ascii_lowercase x ≡ word ++ ds → is_numbered word x ≡ true)
    → (x : List ℕ) (n : ℕ) → n < 2 ^ 64 → is_numbered word x ≡ false → str_eq_ignore_ascii_case x (word ++ decimal n) ≡ false
no_number word low like x n h k =
    unlike_lower x (word ++ decimal n)
    (λ e. true≢false (sym (like x (decimal n) (decimal_number n h) (e ∙ number_lower word n low h)) ∙ k))

pub no_pin : (x : List ℕ) (n : ℕ) → n < 2 ^ 64 → is_numbered (codes "pin") x ≡ false
    → str_eq_ignore_ascii_case x (codes "pin" ++ decimal n) ≡ false
no_pin x n h k = no_number (codes "pin") refl like_pin x n h k

pub no_cell : (x : List ℕ) (n : ℕ) → n < 2 ^ 64 → is_numbered (codes "cell") x ≡ false
    → str_eq_ignore_ascii_case x (codes "cell" ++ decimal n) ≡ false
no_cell x n h k = no_number (codes "cell") refl like_cell x n h k

-- numbered names of two numbers
numbers_apart :
    (word : List ℕ) → map to_ascii_lowercase word ≡ word → (m n : ℕ) → m < 2 ^ 64 → n < 2 ^ 64 → (m ≡ n → ⊥)
    → str_eq_ignore_ascii_case (word ++ decimal m) (word ++ decimal n) ≡ false
numbers_apart word low m n h k apart =
    unlike_lower (word ++ decimal m) (word ++ decimal n)
    (λ e. apart (decimal_injective m n h k
    (append_cancel_left word (decimal m) (decimal n) (sym (number_lower word m low h) ∙ e ∙ number_lower word n low k))))

pub pins_apart : (m n : ℕ) → m < 2 ^ 64 → n < 2 ^ 64 → (m ≡ n → ⊥)
    → str_eq_ignore_ascii_case (codes "pin" ++ decimal m) (codes "pin" ++ decimal n) ≡ false
pins_apart m n h k apart = numbers_apart (codes "pin") refl m n h k apart

pub cells_apart : (m n : ℕ) → m < 2 ^ 64 → n < 2 ^ 64 → (m ≡ n → ⊥)
    → str_eq_ignore_ascii_case (codes "cell" ++ decimal m) (codes "cell" ++ decimal n) ≡ false
cells_apart m n h k apart = numbers_apart (codes "cell") refl m n h k apart

-- the name of an entity
pub record IsGivenName (name : List ℕ) : Type 0 where
  pub named : IsEntityName name
  pub no_pin : is_numbered (codes "pin") name ≡ false

-- a kept name
pub record IsKeptName (given : List (List ℕ)) (name : List ℕ) : Type 0 where
  pub named : IsGivenName name
  pub no_cell : is_numbered (codes "cell") name ≡ false
  pub new : is_some (number_of given (lowered name)) ≡ false

pub record IsFree (name : List ℕ) : Type 0 where
  pub no_word : IsTrue (not (is_vhdl_word name))
  pub no_pin : is_numbered (codes "pin") name ≡ false

pub free : (name : List ℕ) → IsTrue (is_free name) → IsFree name
unfolding is_free
free name h =
    let a = and_parts (not (is_vhdl_word name)) (not (begins (codes "vital") name) && not (is_numbered (codes "pin") name)) h in
    let b = and_parts (not (begins (codes "vital") name)) (not (is_numbered (codes "pin") name)) a.1 in
    record { no_word = a.0; no_pin = not-true (is_numbered (codes "pin") name) b.1 }

pub kept : (given : List (List ℕ)) (name : List ℕ) → IsTrue (is_kept_entity_name given name) → IsKeptName given name
unfolding is_kept_entity_name
kept given name h =
    let no_number : Bool = not (is_numbered (codes "cell") name) in
    let new : Bool = not (is_some (number_of given (lowered name))) in
    let a = and_parts (is_identifier name) (is_free name && (no_number && new)) h in
    let b = and_parts (is_free name) (no_number && new) a.1 in
    let c = and_parts no_number new b.1 in
    let f = free name b.0 in
    record {
      named = record { named = record { identifier = identifier_spelled name a.0; no_word = f.no_word }; no_pin = f.no_pin };
      no_cell = not-true (is_numbered (codes "cell") name) c.0;
      new = not-true (is_some (number_of given (lowered name))) c.1;
    }

pub entity_named : (number : ℕ) (given : List (List ℕ)) (name : List ℕ) → number < 2 ^ 64
    → IsGivenName (entity_name number given name)
entity_named number given name h = by (is_kept_entity_name given name) refl
  where
    no_pin_cell : (ds : List ℕ) → is_numbered (codes "pin") (codes "cell" ++ ds) ≡ false
    no_pin_cell ds = refl

    by : (b : Bool) → is_kept_entity_name given name ≡ b → IsGivenName (if b then name else codes "cell" ++ decimal number)
    by true e = (kept given name e).named
    by false e = record { named = cell_number number h; no_pin = no_pin_cell (decimal number) }
