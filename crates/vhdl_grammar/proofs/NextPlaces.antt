-- The names that are numbered, by their numbers.
use Rattle.std.proofs.Common.{◌≡◌, ℕ, zero, suc, ◌-◌, ◌^◌, ◌<◌, ◌≤◌, Bool, true, false, nat_eq, List, [], ◌∷◌, ◌++◌, length, drop, get_or}
use Rattle.std.proofs.Common.{Option, Some, None, if◌then◌else◌, refl, sym, ap, subst, ◌∙◌, arith, decimal}
use Rattle.std.specs.Char.{is_ascii_digit, to_ascii_lowercase}
use Rattle.std.specs.Str.{bytes_eq, str_eq_ignore_ascii_case}
use Rattle.std.specs.Str.Parse.{AllDigits}
use Rattle.std.proofs.Math.Seq.{drop-append_seam}
use Rattle.std.proofs.lemmas.Bool.Decides.{nat_tests}
use Rattle.std.proofs.lemmas.Bool.{eqb-true, true≢false}
use Rattle.std.proofs.lemmas.Fmt.{decimal_is_IsNumeral}
use Rattle.std.proofs.lemmas.List.{length-map, map-append}
use Rattle.std.proofs.lemmas.Slice.Eq.{bytes_eq-Decides}
use Rattle.std.proofs.lemmas.Str.Parse.{digit_from_value}
use Rattle.vhdl_tokens.specs.Kept.{lowered}
use Rattle.vhdl_tokens.specs.Spelling.{is_character, is_same}
use Rattle.vhdl_grammar.specs.VhdlRules.{numbered, place_among}

digit_lower : (c : ℕ) → is_ascii_digit c ≡ true → to_ascii_lowercase c ≡ c
digit_lower c h = grind (arith, nat_tests)

digits_lower : (x : List ℕ) → AllDigits 10 x → lowered x ≡ x
digits_lower [] h = refl
digits_lower (c ∷ x) h =
    let range = digit_from_value c h.0 in
    let digit : is_ascii_digit c ≡ true = grind (arith, nat_tests, range) in
    ap (λ (d : ℕ). d ∷ lowered x) (digit_lower c digit) ∙ ap (λ (l : List ℕ). c ∷ l) (digits_lower x h.1)

by_kind : (b p q : Bool) (P : Type 0) → (p ≡ true → P) → (q ≡ true → P) → (if b then p else q) ≡ true → P
by_kind true p q P f g e = f e
by_kind false p q P f g e = g e

-- tokens that are the same are equal in lower case
same_lower : (x y : List ℕ) → is_same x y ≡ true → lowered x ≡ lowered y
same_lower x y e =
    by_kind (is_character x) (bytes_eq x y) (str_eq_ignore_ascii_case x y) (lowered x ≡ lowered y)
    (λ h. ap lowered ((bytes_eq-Decides x y).0 h)) (λ h. (bytes_eq-Decides (lowered x) (lowered y)).0 h) e

lower_digit : (c d : ℕ) → is_ascii_digit d ≡ true → to_ascii_lowercase c ≡ d → c ≡ d
lower_digit c d h e = grind (arith, nat_tests, h, e)

-- digits in lower case are the digits
lower_digits : (y ds : List ℕ) → AllDigits 10 ds → lowered y ≡ ds → y ≡ ds
lower_digits [] ds h e = e
lower_digits (c ∷ y) [] h e = absurd cc
lower_digits (c ∷ y) (d ∷ ds) h e =
    let range = digit_from_value d h.0 in
    let digit : is_ascii_digit d ≡ true = grind (arith, nat_tests, range) in
    ap (λ (x : ℕ). x ∷ y) (lower_digit c d digit (ap (λ (l : List ℕ). get_or l 0 0) e))
    ∙ ap (λ (l : List ℕ). d ∷ l) (lower_digits y ds h.1 (ap (λ (l : List ℕ). drop 1 l) e))

drop_lowered : (n : ℕ) (x : List ℕ) → lowered (drop n x) ≡ drop n (lowered x)
drop_lowered zero x = refl
drop_lowered (suc n) [] = refl
drop_lowered (suc n) (c ∷ x) = drop_lowered n x

-- the number of a numbered name stands behind its word
number_stands : (word x : List ℕ) (n : ℕ) → n < 2 ^ 64 → is_same x (numbered word n) ≡ true → drop (length word) x ≡ decimal n
number_stands word x n h e =
    let digits = (decimal_is_IsNumeral n h).0.1 in
    lower_digits (drop (length word) x) (decimal n) digits
    (drop_lowered (length word) x
    ∙ ap (λ (l : List ℕ). drop (length word) l) (same_lower x (numbered word n) e ∙ map-append to_ascii_lowercase word (decimal n))
    ∙ ap (λ (k : ℕ). drop k (lowered word ++ lowered (decimal n))) (sym (length-map word to_ascii_lowercase))
    ∙ drop-append_seam (lowered word) (lowered (decimal n)) ∙ digits_lower (decimal n) digits)

-- only this number may be the token's
abbrev pub IsOnly : List ℕ → List ℕ → Option ℕ → Type 0
IsOnly word x found = (n : ℕ) → n < 2 ^ 64 → is_same x (numbered word n) ≡ true → found ≡ Some n

-- the number that was found behind as many bytes as the word has is the only one
pub only_number : (word x : List ℕ) (found : Option ℕ)
    → ((n : ℕ) → n < 2 ^ 64 → drop (length word) x ≡ decimal n → found ≡ Some n) → IsOnly word x found
only_number word x found there n h e = there n h (number_stands word x n h e)

if_same : (b : Bool) (place other outcome : Option ℕ) → (b ≡ true → place ≡ outcome) → (b ≡ false → other ≡ outcome)
    → (if b then place else other) ≡ outcome
if_same true place other outcome f g = f refl
if_same false place other outcome f g = g refl

no_place : (word x : List ℕ) (most : ℕ) → ((n : ℕ) → 0 < n → n ≤ most → is_same x (numbered word n) ≡ true → ⊥)
    → place_among word most x ≡ None
no_place word x zero h = refl
no_place word x (suc n) h =
    if_same (is_same x (numbered word (suc n))) (Some n) (place_among word n x) None
    (λ e. absurd (h (suc n) (omega arith) (omega arith) e))
    (λ e. no_place word x n (λ m above below. h m above (omega (arith, below))))

one_place : (word x : List ℕ) (k most : ℕ) → k < most → is_same x (numbered word (suc k)) ≡ true
    → ((n : ℕ) → n ≤ most → is_same x (numbered word n) ≡ true → n ≡ suc k) → place_among word most x ≡ Some k
one_place word x k zero h e only = absurd (omega (arith, h))
one_place word x k (suc n) h e only =
    if_same (is_same x (numbered word (suc n))) (Some n) (place_among word n x) (Some k)
    (λ f. let same : suc n ≡ suc k = only (suc n) (omega arith) f in let less : n ≡ k = omega (arith, same)
    in ap (λ (m : ℕ). Some m) less)
    (λ f. one_place word x k n (below f) e (λ m below same. only m (omega (arith, below)) same))
  where
    below : is_same x (numbered word (suc n)) ≡ false → k < n
    below f = by (nat_eq k n) refl
      where
        by : (b : Bool) → nat_eq k n ≡ b → k < n
        by true g =
            let same : k ≡ n = eqb-true k n g in
            absurd (true≢false (sym (subst (λ (m : ℕ). is_same x (numbered word (suc m)) ≡ true) same e) ∙ f))
        by false g = grind (arith, nat_tests, h, g)

-- a place of no name, where no number within the most is that of the token
pub none_found : (word x : List ℕ) (most : ℕ) (found : Option ℕ) → most < 2 ^ 64 → IsOnly word x found
    → ((n : ℕ) → found ≡ Some n → 0 < n → n ≤ most → is_same x (numbered word n) ≡ true → ⊥) → place_among word most x ≡ None
none_found word x most found few only others =
    no_place word x most (λ n above below e. others n (only n (omega (arith, few, below)) e) above below e)

some_is : (m k : ℕ) → ◌≡◌ {A = Option ℕ} (Some k) (Some m) → m ≡ k
some_is m k f = cc

pub zero_found : (word x : List ℕ) (most number : ℕ) → most < 2 ^ 64 → IsOnly word x (Some number) → number ≡ 0
    → place_among word most x ≡ None
zero_found word x most number few only none =
    none_found word x most (Some number) few only (λ n e above below same. let its : n ≡ number = some_is n number e
    in absurd (omega (arith, its, above, none)))

pub beyond_found : (word x : List ℕ) (most number : ℕ) → most < 2 ^ 64 → IsOnly word x (Some number) → most < number
    → place_among word most x ≡ None
beyond_found word x most number few only more =
    none_found word x most (Some number) few only (λ n e above below same. let its : n ≡ number = some_is n number e
    in absurd (omega (arith, its, below, more)))

-- the place of the only number
one_found : (word x : List ℕ) (most n : ℕ) → most < 2 ^ 64 → IsOnly word x (Some n) → 0 < n → n ≤ most
    → is_same x (numbered word n) ≡ true
    → place_among word most x ≡ Some (n - 1)
one_found word x most zero few only above below e = absurd (omega (arith, above))
one_found word x most (suc n) few only above below e =
    let same : n ≡ suc n - 1 = omega arith in
    one_place word x n most (omega (arith, below)) e (λ m less its. some_is m (suc n) (only m (omega (arith, few, less)) its))
    ∙ ap (λ (k : ℕ). Some k) same

pub place_found : (word x : List ℕ) (most n : ℕ) → most < 2 ^ 64 → IsOnly word x (Some n) → 0 < n → n ≤ most
    → (if is_same x (numbered word n) then Some (n - 1) else None) ≡ place_among word most x
place_found word x most n few only above below =
    if_same (is_same x (numbered word n)) (Some (n - 1)) None (place_among word most x)
    (λ e. sym (one_found word x most n few only above below e))
    (λ e. sym (none_found word x most (Some n) few only
    (λ m f _ _ same. true≢false (sym (subst (λ (k : ℕ). is_same x (numbered word k) ≡ true) (some_is m n f) same) ∙ e))))
