-- The digits of a number, and what they come to.
use Rattle.std.proofs.Common.{◌≡◌, ℕ, ◌+◌, ◌-◌, ◌*◌, ◌^◌, ◌<◌, ◌≤◌, zero, suc, Bool, true, false, ◌&&◌, nat_le, if◌then◌else◌}
use Rattle.std.proofs.Common.{List, [], ◌∷◌, length, drop, get_or, Some, None, refl, sym, subst, arith, add-one}
use Rattle.std.specs.Char.{is_ascii_digit}
use Rattle.std.specs.List.{list_all}
use Rattle.std.proofs.Math.Seq.{drop-cons}
use Rattle.std.proofs.Math.Nat.{pow-suc, pow-le-pow_right}
use Rattle.std.proofs.lemmas.Bool.{and_parts}
use Rattle.std.proofs.lemmas.Bool.Decides.{nat_tests}
use Rattle.lexer.specs.Numbers.{is_number, AreDigits, number_after, number_of}

-- digits behind a number make it no less
pub digits_grow : (before : ℕ) (ds : List ℕ) → before ≤ number_after before ds
digits_grow before [] = omega arith
digits_grow before (d ∷ ds) =
    let next = digits_grow (before * 10 + (d - 48)) ds in
    omega arith

-- with one digit more it is no more than with all
pub next_fits : (value : ℕ) (ds : List ℕ) (i : ℕ) → i < length ds
    → value * 10 + (get_or ds i 0 - 48) ≤ number_after value (drop i ds)
next_fits value ds i h =
    let first : drop i ds ≡ get_or ds i 0 ∷ drop (suc i) ds = drop-cons ds i 0 h in
    subst (λ l. value * 10 + (get_or ds i 0 - 48) ≤ number_after value l) (sym first)
    (digits_grow (value * 10 + (get_or ds i 0 - 48)) (drop (suc i) ds))

-- a digit is below ten
pub digit_below : (d : ℕ) → is_ascii_digit d ≡ true → d - 48 ≤ 9
digit_below d e = grind (arith, nat_tests)

-- a digit among digits
pub digit_at : (ds : List ℕ) (i : ℕ) → AreDigits ds → i < length ds → 48 ≤ get_or ds i 0
digit_at [] i all h = absurd (omega arith)
digit_at (d ∷ ds) zero (e, all) h = grind (arith, nat_tests, e)
digit_at (d ∷ ds) (suc i) (e, all) h = digit_at ds i all (omega arith)

pow_next : (k : ℕ) → 10 ^ (k + 1) ≡ 10 ^ k * 10
pow_next k = rw add-one (pow-suc 10 k)

-- the digits behind a number below a power of ten
pub value_below : (k before : ℕ) (ds : List ℕ) → AreDigits ds → before < 10 ^ k → number_after before ds < 10 ^ (k + length ds)
value_below k before [] all h =
    let same : k ≡ k + 0 = omega arith in
    subst (λ n. before < 10 ^ n) same h
value_below k before (d ∷ ds) (e, all) h =
    let digit = digit_below d e in
    let power : 10 ^ (k + 1) ≡ 10 ^ k * 10 = pow_next k in
    let next : before * 10 + (d - 48) < 10 ^ (k + 1) = omega (arith, power, h, digit) in
    let same : k + 1 + length ds ≡ k + length (d ∷ ds) = omega arith in
    subst (λ n. number_after (before * 10 + (d - 48)) ds < 10 ^ n) same (value_below (k + 1) (before * 10 + (d - 48)) ds all next)

all_digits : (ds : List ℕ) → list_all is_ascii_digit ds ≡ true → AreDigits ds
all_digits [] e = tt
all_digits (d ∷ ds) e = let p = and_parts (is_ascii_digit d) (list_all is_ascii_digit ds) e in (p.0, all_digits ds p.1)

-- the bytes of a number are digits
pub are_digits : (x : List ℕ) → is_number x ≡ true → AreDigits x
are_digits [] e = absurd cc
are_digits (d ∷ ds) e = let p = and_parts (is_ascii_digit d) (list_all is_ascii_digit ds) e in (p.0, all_digits ds p.1)

-- at most 15 digits are a number below 10^15
few_digits : (x : List ℕ) → is_number x ≡ true → length x ≤ 15 → number_after 0 x < 10 ^ 15
few_digits x e h =
    let below : number_after 0 x < 10 ^ (0 + length x) = value_below 0 0 x (are_digits x e) (omega arith) in
    let ten : 0 < 10 = omega arith in
    let few : 0 + length x ≤ 15 = omega arith in
    let top : 10 ^ (0 + length x) ≤ 10 ^ 15 = pow-le-pow_right ten few in
    omega (arith, below, top)

-- at most 15 digits are a number that fits
pub short_fits : (x : List ℕ) → is_number x ≡ true → length x ≤ 15 → number_after 0 x < 2 ^ 63
short_fits x e h = let below = few_digits x e h in omega (arith, below)

some_if : (b : Bool) (v w : ℕ) → (if b then Some v else None) ≡ Some w → (b ≡ true) × (v ≡ w)
some_if true v w e = (refl, cc)
some_if false v w e = absurd cc

-- the number of a token is below 10^15
pub number_below : (x : List ℕ) (n : ℕ) → number_of x ≡ Some n → n < 10 ^ 15
number_below x n e =
    let f = some_if (is_number x && nat_le (length x) 15) (number_after 0 x) n e in
    let parts = and_parts (is_number x) (nat_le (length x) 15) f.0 in
    let few : length x ≤ 15 = grind (arith, nat_tests, parts.1) in
    subst (λ (k : ℕ). k < 10 ^ 15) f.1 (few_digits x parts.0 few)
